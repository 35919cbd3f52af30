-- What an area that holds says of its words, and of the map. Assumes nothing.
use mathlib.Core.Path.{◌≡◌, sym, ap, ◌∙◌}
use mathlib.Core.List.{List}
use Prim.Native.Nat.{ℕ, ◌≤◌}
use native.Mathlib.Omega.{arith}
use lib.ListN.{length, take, drop, get_or, length-drop}
use lib.Seq.{length-take-le}
use Rattle.ring_log.specs.Log.{Placed}
use Rattle.ring_log.specs.Ring.{Chip, chip_of, table, map_of}
use Rattle.ring_log.proofs.MapMore.{length_map_v}
use Rattle.ring_log.proofs.Index.{pages_length}
use Rattle.ring_log.proofs.RingLaws.{next_le}
use Rattle.lent.specs.Area.{blocks_of, Sized, map_in, Holds}

-- what an area that holds says of its words
pub holds_next : (c w : List ℕ) → Holds c w → get_or w 2 0 ≤ 15
holds_next c w h = omega (arith, h.ready.here, next_le (chip_of c) (get_or w 1 0) 15)

-- the index in the area has as many entries as its words say
pub index_length : (c w : List ℕ) → Sized c w → Holds c w → length (take (get_or w 3 0) (drop 16 w)) ≡ get_or w 3 0
index_length c w s h = length-take-le (get_or w 3 0) (drop 16 w) (omega (arith, h.few, s.long, length-drop 16 w))

-- the map has as many keys as the table
pub map_rows : (B : ℕ) (c : Chip) → length (map_of B c) ≡ length (table B c)
unfolding map_of
map_rows B c = length_map_v (λ (a : Placed). a.1) (table B c)

-- and as the area says
pub map_count : (c w : List ℕ) → Sized c w → Holds c w → length (map_in c) ≡ get_or w 3 0
map_count c w s h =
    map_rows (blocks_of c) (chip_of c) ∙ sym (pages_length (blocks_of c) (table (blocks_of c) (chip_of c))) ∙ ap length (sym h.ready.rows) ∙ index_length c w s h
