-- The map of a chip: it is sorted, and its keys have 1 to 16 bytes. Assumes nothing.
use mathlib.Core.Path.{◌≡◌, refl, sym, ◌∙◌, subst}
use mathlib.Core.List.{List}
use mathlib.Core.Option.{Option, none, some}
use Prim.Native.Nat.{ℕ, ◌+◌, ◌-◌, ◌*◌, ◌≤◌, ◌<◌}
use native.Mathlib.Omega.{arith}
use lib.ListN.{length}
use Rattle.record.specs.Record.{rec_at}
use Rattle.record.proofs.Reading.{says_some_key, says_short_key}
use Rattle.ring_log.specs.Key.{Key}
use Rattle.ring_log.specs.Map.{lookup, Sorted, map_o}
use Rattle.ring_log.specs.Log.{Placed, page_of, oldest, run}
use Rattle.ring_log.specs.Ring.{chip_of, head, table_at, table, map_of}
use Rattle.ring_log.proofs.Window.{page_lt}
use Rattle.ring_log.proofs.MapLaws.{some≢none}
use Rattle.ring_log.proofs.MapMore.{lookup_map_v, sorted_map_v}
use Rattle.ring_log.proofs.LogLaws.{Stands}
use Rattle.ring_log.proofs.Clean.{run_sorted, run_stands}
use Rattle.lent.specs.Area.{blocks_of, map_in}
use Rattle.keys.specs.Walk.{Has}

-- the map is sorted
pub map_sorted : (c : List ℕ) → Sorted (map_in c)
unfolding map_of table table_at
map_sorted c = sorted_map_v (λ (a : Placed). a.1) (table (blocks_of c) (chip_of c)) (run_sorted (blocks_of c) (rec_at c) _ _)

-- ---- THE ROWS OF THE PLACES BEFORE s
module _ (B : ℕ) (big : 4 ≤ B) (c : List ℕ) (size : length c ≡ 4096 * B) (e s : ℕ) where
  row_key : (k : Key) (a : Placed) → lookup k (run B (rec_at c) e s) ≡ some a → (1 ≤ length k) × (length k ≤ 16)
  row_key k a h =
      let w : Stands B (rec_at c) (oldest B e) (s - oldest B e) k a = run_stands B (rec_at c) e s k a h in
      let l : 0 < B = omega arith in
      let i : 256 * page_of B a.0 + 256 ≤ length c = omega (arith, page_lt B a.0 l, size) in (
        subst (λ (x : Key). 1 ≤ length x) w.key (says_some_key c (page_of B a.0) w.rec w.there i),
        subst (λ (x : Key). length x ≤ 16) w.key (says_short_key c (page_of B a.0) w.rec w.there i),
      )

  has_key : (k : Key) (v : List ℕ) → (o : Option Placed) → lookup k (run B (rec_at c) e s) ≡ o → map_o (λ (a : Placed). a.1) o ≡ some v → (1 ≤ length k) × (length k ≤ 16)
  has_key k v none h q = absurd (some≢none (sym q))
  has_key k v (some a) h q = row_key k a h

-- A KEY THAT HAS A VALUE HAS 1 TO 16 BYTES: so none is empty, and each may be given to the next call
pub map_key : (c : List ℕ) → 4 ≤ blocks_of c → length c ≡ 4096 * blocks_of c → (k : Key) → Has k (map_in c) → (1 ≤ length k) × (length k ≤ 16)
unfolding map_of table table_at
map_key c big size k h =
    has_key (blocks_of c) big c size (head (blocks_of c) (chip_of c) + blocks_of c) (15 * (head (blocks_of c) (chip_of c) + blocks_of c) + 15) k h.0 _ refl
    (sym (lookup_map_v (λ (a : Placed). a.1) k (table (blocks_of c) (chip_of c))) ∙ h.1)
