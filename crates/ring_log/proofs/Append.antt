-- An append under what memory says: the place is free, the next place is the one after it; what it costs, and what an opening costs, as potentials of chips.
-- Assumes nothing.
use mathlib.Core.Path.{◌≡◌, refl, sym, ap, ◌∙◌, subst}
use mathlib.Core.Logic.{◌⊎◌, inl, inr}
use mathlib.Core.List.{List}
use mathlib.Core.Bool.{Bool, true, false}
use Prim.Native.Nat.{ℕ, suc, ◌+◌, ◌-◌, ◌*◌, ◌/◌, ◌≤◌, ◌<◌}
use native.Mathlib.Decide.{ℕ_discrete}
use native.Mathlib.Omega.{arith}
use lib.ListN.{length}
use Rattle.record.specs.Record.{Rec}
use Rattle.ring_log.specs.Map.{Map, lookup, alter, map_o, Sorted}
use Rattle.ring_log.specs.Log.{Placed, placed, page_of, oldest, run, pages, FIRST, U}
use Rattle.ring_log.specs.Ring.{Chip, sealed, spare, Ring, next, table, map_of, room, Ready}
use Rattle.ring_log.specs.Call.{Page}
use Rattle.ring_log.specs.Wear.{ages, phi, potential}
use Rattle.ring_log.specs.Opening.{Opening, fresh}
use Rattle.ring_log.proofs.Steps.{Written, Spoilt, Free, head_page, table_at_lem, table_run, append_ring, append_table, append_map, spoilt_table, spoilt_map}
use Rattle.ring_log.proofs.WearLaws.{Under, ages_older, ages_write, phi_call}
use Rattle.ring_log.proofs.LogLaws.{Stands}
use Rattle.ring_log.proofs.RingLaws.{next_le, next_blank, next_is, next_cong}
use Rattle.ring_log.proofs.Clean.{run_sorted, run_stands}
use Rattle.ring_log.proofs.Potential.{potential_at}
use Rattle.ring_log.proofs.Opening.{said_full, opening_ring, opening_next, opening_paid}

module _ (B : ℕ) (big : 4 ≤ B) where
  -- the table is sorted by key
  pub table_sorted : (c : Chip) (h : ℕ) → Ring B c h → Sorted (table B c)
  table_sorted c h r = subst Sorted (sym (table_at_lem B big c h r)) (run_sorted B c.recs (h + B) (15 * (h + B) + 15))

  -- the place that the next record goes to
  abbrev pub place : Chip → ℕ → ℕ
  place c h = 15 * (h + B) + next c h

  module _ (c c' : Chip) (h : ℕ) (r : Ring B c h) where
    -- it lies on page `next` of the head's block
    pub place_page : next c h < 15 → page_of B (place c h) ≡ 16 * h + next c h
    place_page l = head_page B big h (next c h) r.inside l

    -- that page is blank
    pub place_blank : next c h < 15 → c.full (page_of B (place c h)) ≡ false
    place_blank l = ap c.full (place_page l) ∙ next_blank c h 15 (next c h) (omega arith) l

    -- from there to the end of the block no page says anything
    pub place_free : Free B c.recs (place c h) (15 * (h + B) + 15)
    place_free u a b =
        let j : ℕ = u - 15 * (h + B) in
        let q : 15 * (h + B) + j ≡ u = omega arith in
        c.honest (page_of B u) (ap (λ (x : ℕ). c.full (page_of B x)) (sym q) ∙ ap c.full (head_page B big h j r.inside (omega arith)) ∙ next_blank c h 15 j (omega arith) (omega arith))

    -- every value stands before it
    pub place_under : Under (h + B) (next c h) (table B c)
    place_under k a e =
        let q : table B c ≡ run B c.recs (h + B) (place c h) = table_run B big c h r (place c h) (omega arith) (omega (arith, next_le c h 15)) place_free in
        let w : Stands B c.recs (oldest B (h + B)) (place c h - oldest B (h + B)) k a = run_stands B c.recs (h + B) (place c h) k a (ap (lookup k) (sym q) ∙ e) in
        omega (arith, w.below)

    module _ (l : next c h < 15) where
      at : place c h / 15 ≡ h + B
      at = omega arith

      -- one place more at most, and one for each of the values
      paid : (d : Chip) → Ring B d h → {S : ℕ} → ages (h + B) (next d h) (table B d) ≡ S → (next d h ≡ next c h) ⊎ (next d h ≡ suc (next c h))
          → S ≤ ages (h + B) (next c h) (table B c) + 8 * (B - 2) → potential B d ≤ potential B c + (U - 1) * (B - 2)
      paid d q {S} s n y =
          omega (
            arith,
            potential_at B big c h r,
            potential_at B big d h q,
            phi_call (B - 2) (next c h - FIRST) (ages (h + B) (next c h) (table B c)) (next d h - FIRST) (ages (h + B) (next d h) (table B d)) (one n) (omega arith),
          )
        where
          one : (next d h ≡ next c h) ⊎ (next d h ≡ suc (next c h)) → next d h - FIRST ≤ next c h - FIRST + 1
          one (inl e) = omega arith
          one (inr e) = omega arith

      -- whole
      module _ (x : Rec) (w : Written B (place c h) x c c') where
        -- the ring is the same
        pub put_ring : Ring B c' h
        put_ring = append_ring B big c c' h (place c h) r at w.page

        -- the table has the new row, or lost the one of the key
        pub put_table : table B c' ≡ alter x.key (map_o (placed (place c h)) x.what) (table B c)
        put_table = append_table B big c c' h (place c h) r at x place_free w

        -- THE MAP IS ALTERED
        pub put_map : map_of B c' ≡ alter x.key x.what (map_of B c)
        put_map = append_map B big c c' h (place c h) r at x place_free w

        -- the next place is one more
        pub put_next : next c' h ≡ suc (next c h)
        put_next =
            next_is c' h 15 (suc (next c h)) l
            (λ j a b. w.page.full (16 * h + j) (λ e. omega (arith, place_page l)) ∙ next_blank c h 15 j (omega arith) b)
            (λ j e. ap c'.full (let z : 16 * h + j ≡ 16 * h + next c h = omega arith in z ∙ sym (place_page l)) ∙ said_full c' (page_of B (place c h)) x w.here)

        -- memory says the chip again
        pub put_ready : (index : List ℕ) → index ≡ pages B (table B c') → length index ≤ 8 * (B - 2) → Ready B c' h (suc (next c h)) index
        put_ready index e few = record { ring = put_ring; here = sym put_next; rows = e; few = few }

        -- the potential rises by at most 14 (B - 2), where there are no more values then than there is room for
        pub put_paid : length (table B c') ≤ room B → potential B c' ≤ potential B c + (U - 1) * (B - 2)
        put_paid few =
            let a : ages (h + B) (suc (next c h)) (table B c') ≤ ages (h + B) (next c h) (table B c) + length (table B c') =
            subst (λ (m : Map Placed). ages (h + B) (suc (next c h)) m ≤ ages (h + B) (next c h) (table B c) + length m) (sym put_table)
            (ages_write (h + B) (next c h) (table B c) (table_sorted c h r) place_under l x.key x.what) in
            paid c' put_ring (ap (λ (n : ℕ). ages (h + B) n (table B c')) put_next) (inr put_next) (omega (arith, a, few))

      -- cut, and the page says nothing
      module _ (w : Spoilt B (place c h) c c') where
        -- the ring is the same
        pub lost_ring : Ring B c' h
        lost_ring = append_ring B big c c' h (place c h) r at w.page

        -- so is the table
        pub lost_table : table B c' ≡ table B c
        lost_table = spoilt_table B big c c' h (place c h) r at (place_free (place c h) (omega arith) (omega arith)) w

        -- THE MAP STAYS
        pub lost_map : map_of B c' ≡ map_of B c
        lost_map = spoilt_map B big c c' h (place c h) r at (place_free (place c h) (omega arith) (omega arith)) w

        -- the page reads blank, and will be written again, or it is given up
        pub lost_next : (next c' h ≡ next c h) ⊎ (next c' h ≡ suc (next c h))
        lost_next = go (c'.full (page_of B (place c h))) refl
          where
            after : (j : ℕ) → suc (next c h) ≤ j → j < 15 → c'.full (16 * h + j) ≡ false
            after j a b = w.page.full (16 * h + j) (λ e. omega (arith, place_page l)) ∙ next_blank c h 15 j (omega arith) b

            go : (b : Bool) → c'.full (page_of B (place c h)) ≡ b → (next c' h ≡ next c h) ⊎ (next c' h ≡ suc (next c h))
            go true e =
                inr (next_is c' h 15 (suc (next c h)) l after
                (λ j d. ap c'.full (let z : 16 * h + j ≡ 16 * h + next c h = omega arith in z ∙ sym (place_page l)) ∙ e))
            go false e = inl (next_cong c c' h 15 (λ j b. kept j (ℕ_discrete (16 * h + j) (page_of B (place c h)))))
              where
                kept : (j : ℕ) → Dec (16 * h + j ≡ page_of B (place c h)) → c'.full (16 * h + j) ≡ c.full (16 * h + j)
                kept j (yes d) = ap c'.full d ∙ e ∙ sym (place_blank l) ∙ ap c.full (sym d)
                kept j (no d) = w.page.full (16 * h + j) d

        -- the potential rises by at most 14 (B - 2)
        pub lost_paid : length (table B c) ≤ room B → potential B c' ≤ potential B c + (U - 1) * (B - 2)
        lost_paid few = go lost_next
          where
            same : ages (h + B) (next c' h) (table B c') ≡ ages (h + B) (next c' h) (table B c)
            same = ap (ages (h + B) (next c' h)) lost_table

            go : (next c' h ≡ next c h) ⊎ (next c' h ≡ suc (next c h)) → potential B c' ≤ potential B c + (U - 1) * (B - 2)
            go (inl e) = paid c' lost_ring refl (inl e) (omega (arith, same, ap (λ (n : ℕ). ages (h + B) n (table B c)) e))
            go (inr e) =
                paid c' lost_ring refl (inr e)
                (omega (arith, same, few, ap (λ (n : ℕ). ages (h + B) n (table B c)) e, ages_older (h + B) (next c h) (table B c) (table_sorted c h r) place_under l))

  -- an opening, where the head's block is full: it lowers it by 90 (B - 2) at least
  pub opened_paid : (h : ℕ) (c₀ c c' : Chip) (s : ℕ) (o : Opening B h c₀ c (oldest B (h + B) + 15) s) (w : Page (16 * h + 15) c c') → sealed c' h ≡ true
      → Ring B c₀ h → next c₀ h ≡ 15 → length (table B c₀) ≤ room B → potential B c' + (B - 2) * ((U - 9) * U) ≤ potential B c₀
  opened_paid h c₀ c c' s o w on r full few =
      let a : potential B c₀ ≡ phi (B - 2) (15 - FIRST) (ages (h + B) 15 (table B c₀)) =
      potential_at B big c₀ h r ∙ ap (λ (x : ℕ). phi (B - 2) (x - FIRST) (ages (h + B) x (table B c₀))) full in
      let b : potential B c' ≡ phi (B - 2) (s - fresh B h) (ages (spare B h + B) (s - fresh B h) (table B c')) =
      potential_at B big c' (spare B h) (opening_ring B big h c₀ c c' s o w on)
      ∙ ap (λ (x : ℕ). phi (B - 2) (x - FIRST) (ages (spare B h + B) x (table B c'))) (opening_next B big h c₀ c c' s o w on)
      ∙ ap (λ (x : ℕ). phi (B - 2) x (ages (spare B h + B) (s - fresh B h) (table B c'))) {x = s - fresh B h - FIRST} {y = s - fresh B h} (omega arith) in
      omega (arith, opening_paid B big h c₀ c c' s o w on few)
