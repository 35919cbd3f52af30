-- CLEANING BY THE WAY: a live value is carried to the head, as an append of the value that its key has. Whole or cut, the map stays; the potential does not
-- rise, since the value was old. Assumes nothing.
use mathlib.Core.Path.{◌≡◌, sym, ap, ◌∙◌}
use mathlib.Core.Logic.{◌⊎◌, inl, inr}
use mathlib.Core.List.{List}
use mathlib.Core.Option.{some}
use Prim.Native.Nat.{ℕ, suc, ◌+◌, ◌-◌, ◌*◌, ◌≤◌, ◌<◌}
use native.Mathlib.Omega.{arith}
use lib.ListN.{length, set}
use Rattle.record.specs.Record.{Rec}
use Rattle.ring_log.specs.Key.{Key}
use Rattle.ring_log.specs.Map.{Map, lookup, alter, map_o}
use Rattle.ring_log.specs.Log.{Placed, placed, page_of, oldest, bytes, pages, FIRST, U, log_place}
use Rattle.ring_log.specs.Ring.{Chip, Ring, next, table, map_of, room, Ready}
use Rattle.ring_log.specs.Call.{Wrote, CutWrote, Cursor, Looks, Live}
use Rattle.ring_log.specs.Wear.{age, ages, phi, potential, ripes}
use Rattle.ring_log.specs.Opening.{key_at, Moved}
use Rattle.ring_log.proofs.MapLaws.{some_inj}
use Rattle.ring_log.proofs.LogLaws.{Stands}
use Rattle.ring_log.proofs.Clean.{run_stands}
use Rattle.ring_log.proofs.Index.{pages_length, pages_replace}
use Rattle.ring_log.proofs.Steps.{Written, Spoilt, table_at_lem, copy_bytes}
use Rattle.ring_log.proofs.WearLaws.{ages_moved, ripes_moved, count_copy, phi_moved}
use Rattle.ring_log.proofs.Potential.{potential_at}
use Rattle.ring_log.proofs.Append.{table_sorted, place, place_page, place_under, put_ring, put_table, put_next, put_ready, lost_ring, lost_map}
use Rattle.ring_log.proofs.Crash.{append_written, append_cut_at}

module _ (B : ℕ) (big : 4 ≤ B) (u : Cursor) (c c' : Chip) (h : ℕ) (ring : Ring B c h) (free : next c h < 15) (looks : Looks B u (next c h)) (r : Rec) (a : Placed)
    (live : Live B c (log_place B (h + B) u.at) r a) where
  stands : Stands B c.recs (oldest B (h + B)) (15 * (h + B) + 15 - oldest B (h + B)) r.key a
  stands = run_stands B c.recs (h + B) (15 * (h + B) + 15) r.key a (ap (lookup r.key) (sym (table_at_lem B big c h ring)) ∙ live.row)

  -- the row of a live value has the value that the page has
  pub carried_what : r.what ≡ some a.1
  carried_what =
      ap (λ (y : Rec). y.what) (some_inj (sym live.says ∙ ap (λ (t : ℕ). c.recs (page_of B t)) (sym live.stands) ∙ stands.there)) ∙ stands.what

  -- in the zone a value is older than (U - 1) (B - 2) places
  old : (U - 1) * (B - 2) < age (h + B) (next c h) a
  old = omega (arith, live.stands, looks.zone)

  -- whole
  module _ (w : Written B (place B big c h) r c c') where
    -- the row moves
    pub carry_table : table B c' ≡ alter r.key (some (placed (place B big c h) a.1)) (table B c)
    carry_table =
        put_table B big c c' h ring free r w
        ∙ ap (λ o. alter r.key (map_o (placed (place B big c h)) o) (table B c)) carried_what

    -- THE MAP STAYS
    pub carry_map : map_of B c' ≡ map_of B c
    unfolding map_of
    carry_map = ap bytes carry_table ∙ copy_bytes (table B c) r.key a (place B big c h) (table_sorted B big c h ring) live.row

    -- so does the count
    pub carry_count : length (table B c') ≡ length (table B c)
    carry_count = ap length carry_table ∙ count_copy r.key a (placed (place B big c h) a.1) (table B c) (table_sorted B big c h ring) live.row

    -- in the index its page replaces the one that was there
    pub carry_replaces : (d : Key × Placed) (i : ℕ) → i < length (table B c) → r.key ≡ key_at d (table B c) i
        → pages B (table B c') ≡ set (pages B (table B c)) i (16 * h + next c h)
    carry_replaces d i b k =
        ap (pages B) carry_table
        ∙ pages_replace B d r.key (table B c) i (placed (place B big c h) a.1) (table_sorted B big c h ring) b k
        ∙ ap (set (pages B (table B c)) i) (place_page B big c c' h ring free)

    -- memory says the chip again
    pub carry_ready : (index : List ℕ) → index ≡ pages B (table B c') → length (table B c) ≤ room B → Ready B c' h (suc (next c h)) index
    carry_ready index e few =
        put_ready B big c c' h ring free r w index e (omega (arith, few, carry_count, ap length e, pages_length B (table B c')))

    -- the potential does not rise
    pub carry_paid : length (table B c) ≤ room B → potential B c' ≤ potential B c
    carry_paid few =
        let a' : potential B c' ≡ phi (B - 2) (suc (next c h)) (ages (h + B) (suc (next c h)) (table B c')) =
        potential_at B big c' h (put_ring B big c c' h ring free r w)
        ∙ ap (λ (x : ℕ). phi (B - 2) (x - FIRST) (ages (h + B) x (table B c'))) (put_next B big c c' h ring free r w)
        ∙ ap (λ (x : ℕ). phi (B - 2) x (ages (h + B) (suc (next c h)) (table B c'))) {x = suc (next c h) - FIRST} {y = suc (next c h)} (omega arith) in
        let b : potential B c ≡ phi (B - 2) (next c h) (ages (h + B) (next c h) (table B c)) =
        potential_at B big c h ring
        ∙ ap (λ (x : ℕ). phi (B - 2) x (ages (h + B) (next c h) (table B c))) {x = next c h - FIRST} {y = next c h} (omega arith) in
        omega (
          arith,
          phi_moved (B - 2) (next c h) (ages (h + B) (next c h) (table B c)) (ages (h + B) (suc (next c h)) (table B c')) (length (table B c)) (age (h + B) (next c h) a)
              few (omega (arith, old))
              (ap (λ (m : Map Placed). ages (h + B) (suc (next c h)) m + age (h + B) (next c h) a) carry_table
              ∙ ages_moved (h + B) (next c h) (table B c) (table_sorted B big c h ring) (place_under B big c c' h ring) free r.key a a.1 live.row),
        )

    -- one of the values not yet moved was moved
    pub carry_moved : (j K : ℕ) → Moved B c h j K → Moved B c' h j (suc K)
    carry_moved j K m =
        let n : next c' h ≡ suc (next c h) = put_next B big c c' h ring free r w in
        let q : ripes (suc K) (h + B) (next c' h) (table B c') + 1 ≡ ripes K (h + B) (next c h) (table B c) =
        ap (λ (x : ℕ). ripes (suc K) (h + B) x (table B c') + 1) n
        ∙ ap (λ (y : Map Placed). ripes (suc K) (h + B) (suc (next c h)) y + 1) carry_table
        ∙ ripes_moved (h + B) (next c h) (table B c) (table_sorted B big c h ring) (place_under B big c c' h ring) free r.key a a.1 live.row K
        (omega (arith, old, m.rows)) in
        record { rows = omega (arith, m.rows, q); most = omega (arith, m.most, n) }

  -- ---- as an operation: whole, and cut

  pub carry_done : Wrote (16 * h + next c h) (some r) c c' → (Ring B c' h) × (map_of B c' ≡ map_of B c)
  carry_done w =
      let v : Written B (place B big c h) r c c' = append_written B big c c' h ring free r w in
      (put_ring B big c c' h ring free r v, carry_map v)

  pub carry_lost : CutWrote (16 * h + next c h) (some r) c c' → (Ring B c' h) × (map_of B c' ≡ map_of B c)
  carry_lost w = go (append_cut_at B big c c' h ring free r w)
    where
      go : Written B (place B big c h) r c c' ⊎ Spoilt B (place B big c h) c c' → (Ring B c' h) × (map_of B c' ≡ map_of B c)
      go (inl v) = (put_ring B big c c' h ring free r v, carry_map v)
      go (inr v) = (lost_ring B big c c' h ring free v, lost_map B big c c' h ring free v)
