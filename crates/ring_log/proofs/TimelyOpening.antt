-- AN OPENING KEEPS `Timely`, and copies little: at most d / 8 values, none where the cursor has left the oldest block. Assumes nothing.
use mathlib.Core.Path.{◌≡◌, refl, sym, ap, ◌∙◌}
use mathlib.Core.Bool.{true}
use mathlib.Core.Option.{some}
use Prim.Native.Nat.{ℕ, ◌+◌, ◌-◌, ◌*◌, ◌≤◌, ◌<◌}
use native.Mathlib.Decide.{dec_lt}
use native.Mathlib.Omega.{arith}
use lib.ListN.{length}
use Rattle.ring_log.specs.Key.{Key}
use Rattle.ring_log.specs.Map.{Map, lookup}
use Rattle.ring_log.specs.Log.{Placed, oldest, run, FIRST, U}
use Rattle.ring_log.specs.Ring.{Chip, sealed, spare, Ring, next, table, room}
use Rattle.ring_log.specs.Call.{Page}
use Rattle.ring_log.specs.Wear.{age, ripes}
use Rattle.ring_log.specs.Opening.{Opening, fresh}
use Rattle.ring_log.specs.Timely.{log_end, Behind, Timely}
use Rattle.ring_log.proofs.Clean.{run_sorted}
use Rattle.ring_log.proofs.WearLaws.{ripes_le}
use Rattle.ring_log.proofs.Turn.{turned_ripes}
use Rattle.ring_log.proofs.Opening.{opening_ring, opening_next, opening_turned, opening_count}
use Rattle.ring_log.proofs.Append.{table_sorted}
use Rattle.ring_log.proofs.Timely.{behind_none, none_ripe, ripes_none, rows_timely}

module _ (B : ℕ) (big : 4 ≤ B) (h : ℕ) (c₀ : Chip) (ring : Ring B c₀ h) (full : next c₀ h ≡ 15) (p : ℕ) (b : Behind B c₀ h p) where
  -- the values older than w when it began
  abbrev R : ℕ → ℕ
  R w = ripes w (h + B) 15 (table B c₀)

  at_full : (w : ℕ) → ripes w (h + B) (next c₀ h) (table B c₀) ≡ R w
  at_full w = ap (λ (i : ℕ). ripes w (h + B) i (table B c₀)) full

  none_old : (w : ℕ) → U * (B - 2) + 15 ≤ w + p → R w ≡ 0
  none_old w l =
      sym (at_full w)
      ∙ behind_none B (h + B) big p (next c₀ h) (table B c₀) (table_sorted B big c₀ h ring) (b.inside, b.none_before) w (omega (arith, full))

  module _ (c : Chip) (t s : ℕ) (o : Opening B h c₀ c t s) where
    abbrev x : ℕ
    x = s - fresh B h

    copies_ripe : x ≤ R (U * (B - 2))
    copies_ripe = omega (arith, o.ripened (U * (B - 2)) (omega arith))

    -- WHAT IT COPIES: eight times as much, and the places of the oldest block that the cursor has not passed, are at most d
    pub copies_few : (d : ℕ) → Timely B c₀ h p d → p < 15 → 8 * x + (15 - p) ≤ d
    copies_few d y l =
        omega (arith, y.bound (U * (B - 2)) (omega (arith, full)), at_full (U * (B - 2)), full, copies_ripe)

    pub copies_none : 15 ≤ p → x ≡ 0
    copies_none l = omega (arith, none_old (U * (B - 2)) (omega arith), copies_ripe)

  module _ (c c' : Chip) (s : ℕ) (o : Opening B h c₀ c (oldest B (h + B) + 15) s) (w : Page (16 * h + 15) c c') (on : sealed c' h ≡ true) where
    abbrev y : ℕ
    y = s - fresh B h

    abbrev m : Map Placed
    m = run B c.recs (h + B) s

    -- seen from the next head
    seen : (v : ℕ) → ripes v (spare B h + B) y (table B c') ≡ ripes v (h + B + 1) y m
    seen v = turned_ripes B h m (table B c') v y (opening_turned B big h c₀ c c' s o w on)

    moved : (v : ℕ) → v ≤ U * (B - 2) → ripes (v + y) (spare B h + B) y (table B c') + y ≡ R v
    moved v l = ap (λ (i : ℕ). i + y) (seen (v + y)) ∙ o.ripened v l

    sorted : Ring B c' (spare B h)
    sorted = opening_ring B big h c₀ c c' s o w on

    -- no value stands before the cursor that went back
    gone : ripes (U * (B - 2) + y - (p - 15 + FIRST)) (spare B h + B) y (table B c') ≡ 0
    gone = go (dec_lt p 15)
      where
        go : Dec (p < 15) → ripes (U * (B - 2) + y - (p - 15 + FIRST)) (spare B h + B) y (table B c') ≡ 0
        go (yes l) =
            ap (λ (i : ℕ). ripes i (spare B h + B) y (table B c')) {x = U * (B - 2) + y - (p - 15 + FIRST)} {y = U * (B - 2) + y} (omega arith)
            ∙ seen (U * (B - 2) + y)
            ∙ ripes_none (h + B + 1) y (U * (B - 2) + y) m (run_sorted B c.recs (h + B) s) (λ k a e. let z = o.from k a e in omega arith)
        go (no l) =
            let v : ℕ = U * (B - 2) + 15 - p in
            let i : U * (B - 2) + y - (p - 15 + FIRST) ≡ v + y = omega (arith, b.inside, full) in
            ap (λ (i : ℕ). ripes i (spare B h + B) y (table B c')) i ∙ zero_both _ y (moved v (omega arith) ∙ none_old v (omega (arith, b.inside, full)))
          where
            zero_both : (f g : ℕ) → f + g ≡ 0 → f ≡ 0
            zero_both f g q = omega arith

    behind_back : (k : Key) (a : Placed) → lookup k (table B c') ≡ some a → age (spare B h + B) y a + (p - 15 + FIRST) ≤ log_end B y
    behind_back k a e =
        let z = none_ripe (spare B h + B) y (U * (B - 2) + y - (p - 15 + FIRST)) (table B c') (table_sorted B big c' (spare B h) sorted) gone k a e in
        fit (age (spare B h + B) y a) z
      where
        fit : (i : ℕ) → i ≤ U * (B - 2) + y - (p - 15 + FIRST) → i + (p - 15 + FIRST) ≤ log_end B y
        fit i l = omega (arith, b.inside, full)

    pub opened_behind : Behind B c' (spare B h) (p - 15 + FIRST)
    opened_behind =
        let n : next c' (spare B h) ≡ y = opening_next B big h c₀ c c' s o w on in
        record {
          inside = omega (arith, b.inside, full, n);
          none_before = λ k a e. rw n (behind_back k a e);
        }

    -- AN OPENING KEEPS IT
    pub opened_timely : (d : ℕ) → length (table B c₀) ≤ room B → Timely B c₀ h p d → Timely B c' (spare B h) (p - 15 + FIRST) (d - (15 - p))
    opened_timely d few t =
        rows_timely B big c' (spare B h) (p - 15 + FIRST) (d - (15 - p)) y (table B c') (opening_next B big h c₀ c c' s o w on) refl
        ((omega (arith, b.inside, full), behind_back), λ v l. bound v l (dec_lt v y))
      where
        old : (v : ℕ) → v + p ≤ U * (B - 2) + 15 → 8 * (15 + R v) + 7 * v ≤ p + 7 * (U * (B - 2) + 15) + d
        old v l = omega (arith, t.bound v (omega (arith, full)), at_full v, full)

        count : length (table B c') ≡ length (table B c₀)
        count = opening_count B big h c₀ c c' s o w on

        bound : (v : ℕ) → v + (p - 15 + FIRST) ≤ log_end B y → Dec (v < y)
            → 8 * (y + ripes v (spare B h + B) y (table B c')) + 7 * v ≤ p - 15 + FIRST + 7 * log_end B y + (d - (15 - p))
        bound v l (yes z) = go (dec_lt p 15)
          where
            go : Dec (p < 15) → 8 * (y + ripes v (spare B h + B) y (table B c')) + 7 * v ≤ p - 15 + FIRST + 7 * log_end B y + (d - (15 - p))
            go (yes i) = omega (arith, copies_few c (oldest B (h + B) + 15) s o d t i, ripes_le v (spare B h + B) y (table B c'), count, few)
            go (no i) = absurd (omega (arith, copies_none c (oldest B (h + B) + 15) s o (omega arith)))
        bound v l (no z) =
            let i : v - y + y ≡ v = omega arith in
            let j : ripes v (spare B h + B) y (table B c') + y ≡ R (v - y) =
            ap (λ (i : ℕ). ripes i (spare B h + B) y (table B c') + y) (sym i) ∙ moved (v - y) (omega arith) in
            omega (arith, old (v - y) (omega arith), j, i)
