-- NO CALL IS LONG, in every history: the cursor of cleaning is in time, but for 8 (1 + late), after every step of it. Assumes nothing.
use mathlib.Core.Path.{◌≡◌, refl, sym, ap, ◌∙◌, subst}
use mathlib.Core.Logic.{inl, inr}
use mathlib.Core.List.{List, []}
use mathlib.Core.Bool.{Bool, true, false, cond}
use mathlib.Core.Option.{some}
use Prim.Native.Nat.{ℕ, suc, ◌+◌, ◌-◌, ◌*◌, ◌≤◌, ◌<◌}
use native.Mathlib.Omega.{arith}
use lib.Dec.{eqb}
use lib.ListN.{length, get_or}
use borrow.Author.Tests.{leb-true}
use Rattle.chip.specs.Play.{Op, erases, writes}
use Rattle.chip.proofs.Plays.{did_length}
use Rattle.record.specs.Record.{Rec, record_of}
use Rattle.ring_log.specs.Key.{Key}
use Rattle.ring_log.specs.Map.{Map, lookup}
use Rattle.ring_log.specs.Log.{Placed}
use Rattle.ring_log.specs.Ring.{chip_of, head, Ring, next, table, room}
use Rattle.ring_log.specs.Call.{resting, Trace}
use Rattle.ring_log.specs.Call.{begin as called}
use Rattle.ring_log.specs.Timely.{log_end, Behind, Oldest, Timely}
use Rattle.ring_log.specs.Answers.{refused, done, put_answer, delete_answer, start_answer}
use Rattle.ring_log.specs.Answers.{Answer as Says}
use Rattle.ring_log.proofs.MapLaws.{some≢none}
use Rattle.ring_log.proofs.RingLaws.{ring_head}
use Rattle.ring_log.proofs.Start.{blank_ring, blank_table}
use Rattle.ring_log.proofs.Timely.{timely_more, timely_on, zone_timely}
use Rattle.ring_log.proofs.TimelyCall.{Left, call_timely}
use Rattle.lent.specs.Area.{blocks_of, map_in, passed, lent_of, lent_to_start, Holds, Store}
use Rattle.change.specs.Changed.{ChangesBy, Ended, PutEnds, DeleteEnds, Came}
use Rattle.start.specs.Started.{StartsBy, StartEnds}
use Rattle.lent.specs.Ended.{Answer, Done, Refused}
use Rattle.histories.specs.History.{Phase, off, on, started, failed, History, reached, clean, late_after, late, begin, found, dark, lend, start, put, delete, get, count}
use Rattle.histories.specs.History.{next as next_step}
use Rattle.histories.proofs.Histories.{Tends, tends_kept, lent_on_lem, blocks_are, few_table, goes_dark, lit_on, lit_before, lives}

module _ (B : ℕ) (big : 4 ≤ B) where
  -- somewhere the cursor would be in time
  abbrev Somewhere : List ℕ → ℕ → Type 0
  Somewhere c L = L ≤ 5 → (p : ℕ) × Timely B (chip_of c) (head B (chip_of c)) p (8 * (1 + L))

  -- while the store is on, and there is power, it is where the area says
  abbrev InTime : Phase → List ℕ → ℕ → Type 0
  InTime off c L = Somewhere c L
  InTime (on noise f w) c L =
      Somewhere c L × (0 < f → Behind B (chip_of c) (head B (chip_of c)) (passed w) × (L ≤ 5 → Timely B (chip_of c) (head B (chip_of c)) (passed w) (8 * (1 + L))))

  somewhere_of : (s : Phase) (c : List ℕ) (L : ℕ) → InTime s c L → Somewhere c L
  somewhere_of off c L t = t
  somewhere_of (on noise f w) c L t = t.0

  -- later is weaker
  somewhere_more : (c : List ℕ) (L M : ℕ) → L ≤ M → Somewhere c L → Somewhere c M
  somewhere_more c L M l t m =
      let x = t (omega arith) in
      (x.0, timely_more B big (chip_of c) (head B (chip_of c)) x.0 (8 * (1 + L)) (8 * (1 + M)) (omega arith) x.1)

  on_more : (noise noise' : List ℕ) (f f' : ℕ) (w c : List ℕ) (L M : ℕ) → L ≤ M → (0 < f' → 0 < f) → InTime (on noise f w) c L → InTime (on noise' f' w) c M
  on_more noise noise' f f' w c L M l z t = (
    somewhere_more c L M l t.0,
    λ y. (
      (t.1 (z y)).0,
      λ m. timely_more B big (chip_of c) (head B (chip_of c)) (passed w) (8 * (1 + L)) (8 * (1 + M)) (omega arith) ((t.1 (z y)).1 (omega arith)),
    ),
  )

  -- ---- A BLANK CHIP: there is no value, and the cursor may stand at the end of the log
  blank_time : (c : List ℕ) → ((p : ℕ) → p < 16 * B → (chip_of c).full p ≡ false) → Somewhere c 0
  unfolding lookup
  blank_time c f l =
      let h : head B (chip_of c) ≡ 0 = ring_head B big (chip_of c) 0 (blank_ring B big (chip_of c) f) in
      let p : ℕ = log_end B (next (chip_of c) 0) in
      let few : length (table B (chip_of c)) ≤ room B = omega (arith, ap length (blank_table B big (chip_of c) f)) in
      let b : Behind B (chip_of c) 0 p =
      record { inside = omega arith; none_before = λ k a e. absurd (none_there k a (ap (lookup k) (sym (blank_table B big (chip_of c) f)) ∙ e)) } in (
        p,
        subst (λ (i : ℕ). Timely B (chip_of c) i p 8) (sym h)
            (timely_more B big (chip_of c) 0 p (8 * 0) 8 (omega arith) (zone_timely B big (chip_of c) 0 (blank_ring B big (chip_of c) f) p few b 0 (omega arith))),
      )
    where
      none_there : (k : Key) (a : Placed) → lookup {A = Placed} k [] ≡ some a → ⊥
      none_there k a e = some≢none (sym e)

  -- ---- A START puts it at the oldest value, as far on as can be
  start_time : (s : Phase) (noise c : List ℕ) (f : ℕ) (w w' : List ℕ) (r : Answer) (L : ℕ) → length c ≡ 4096 * B → StartEnds c f w w' r → InTime s c L
      → InTime (started s noise f w' r) c L
  start_time s noise c f w w' (Refused k) L z e t = go (eqb k 8)
    where
      go : (b : Bool) → InTime (cond b off s) c L
      go true = somewhere_of s c L t
      go false = t
  start_time s noise c f w w' (Done k) L z e t = (somewhere_of s c L t, λ _. (old.behind, λ l. in_time l))
    where
      ready : (a : Says (Map (List ℕ))) → StartsBy c w w' a (Done k) → Holds c w'
      ready (refused j) y = absurd (done_refused k j y.0)
        where
          done_refused : (i j : ℕ) → Done i ≡ Refused j → ⊥
          done_refused i j q = subst (λ (a : Answer). told a) q tt
            where
              told : Answer → Type 0
              told (Done i) = Unit {0}
              told (Refused i) = ⊥
      ready (done m) y = y.2

      holds : Holds c w'
      holds = ready (start_answer (lent_to_start c f w) (chip_of c)) e.ends

      at : get_or w' 1 0 ≡ head B (chip_of c)
      at =
          sym (ring_head B big (chip_of c) (get_or w' 1 0) (subst (λ (i : ℕ). Ring i (chip_of c) (get_or w' 1 0)) (blocks_are B big c z) holds.ready.ring))

      old : Oldest B (chip_of c) (head B (chip_of c)) (passed w')
      old =
          subst (λ (i : ℕ). Oldest B (chip_of c) i (passed w')) at
          (subst (λ (i : ℕ). Oldest i (chip_of c) (get_or w' 1 0) (passed w')) (blocks_are B big c z) e.cursor)

      in_time : L ≤ 5 → Timely B (chip_of c) (head B (chip_of c)) (passed w') (8 * (1 + L))
      in_time l =
          let x = somewhere_of s c L t l in
          timely_on B big (chip_of c) (head B (chip_of c)) x.0 (passed w') (8 * (1 + L)) (old.most x.0 x.1.behind) old.behind x.1

  -- ---- A PUT OR A DELETE
  module _ (x : Rec) (noise c : List ℕ) (f : ℕ) (w c' : List ℕ) (f' : ℕ) (w' : List ℕ) (L : ℕ) (size : length c ≡ 4096 * B) (store : Store c) where
    same_b : blocks_of c ≡ B
    same_b = blocks_are B big c size

    -- what its steps leave
    stepped : (b : Bool) (p : ℕ) (l : List Op) (m : Map (List ℕ)) → length c' ≡ 4096 * B → Came b x (passed w) p c c' l m
        → Behind B (chip_of c) (head B (chip_of c)) (passed w) × (L ≤ 5 → Timely B (chip_of c) (head B (chip_of c)) (passed w) (8 * (1 + L)))
        → Left B (L ≤ 5) L b (chip_of c') p × (L ≤ 5 → (erases l ≤ 1) × (writes l ≤ 10 + L))
    stepped b p l m z k (a, t) =
        call_timely B big x (L ≤ 5) L (λ g. g) (chip_of c) (chip_of c') (head B (chip_of c)) (passed w) p l b
        (subst (λ (i : ℕ). Trace i x (called (passed w)) (resting (chip_of c) (head i (chip_of c))) (chip_of c') p l b) same_b k.trace)
        (record { ring = at_head (subst (λ (i : ℕ). (h : ℕ) × Ring i (chip_of c) h) same_b store.ring); few = few_table B big c store size })
        (few_table B big c' k.store z) a
        (λ g. timely_more B big (chip_of c) (head B (chip_of c)) (passed w) (8 * (1 + L)) (8 * L + 8) (omega arith) (t g))
      where
        at_head : ((h : ℕ) × Ring B (chip_of c) h) → Ring B (chip_of c) (head B (chip_of c))
        at_head (h, r) = subst (Ring B (chip_of c)) (sym (ring_head B big (chip_of c) h r)) r

    -- done, and how late it is then
    done_time : (M : ℕ) → L ≤ M → length c' ≡ 4096 * B → Store c' → Holds c' w' → Left B (L ≤ 5) L true (chip_of c') (passed w')
        → InTime (on noise f' w') c' (cond (clean c' w') 0 M)
    done_time M l z st holds (h, r, b, t) = go (clean c' w') refl
      where
        e : head B (chip_of c') ≡ h
        e = ring_head B big (chip_of c') h r

        b' : Behind B (chip_of c') (head B (chip_of c')) (passed w')
        b' = subst (λ (i : ℕ). Behind B (chip_of c') i (passed w')) (sym e) b

        by : (N : ℕ) → (N ≤ 5 → Timely B (chip_of c') h (passed w') (8 * (1 + N))) → InTime (on noise f' w') c' N
        by N y =
            let y' : N ≤ 5 → Timely B (chip_of c') (head B (chip_of c')) (passed w') (8 * (1 + N)) =
            λ m. subst (λ (i : ℕ). Timely B (chip_of c') i (passed w') (8 * (1 + N))) (sym e) (y m) in
            (λ m. (passed w', y' m), λ _. (b', y'))

        B' : blocks_of c' ≡ B
        B' = blocks_are B big c' z

        here : next (chip_of c') h ≡ get_or w' 2 0
        here =
            ap (next (chip_of c'))
            (sym (ring_head B big (chip_of c') h r)
            ∙ ring_head B big (chip_of c') (get_or w' 1 0) (subst (λ (i : ℕ). Ring i (chip_of c') (get_or w' 1 0)) B' holds.ready.ring))
            ∙ sym holds.ready.here

        go : (k : Bool) → clean c' w' ≡ k → InTime (on noise f' w') c' (cond k 0 M)
        go true k =
            let y : get_or w' 2 0 + (blocks_of c' - 2) ≤ reached w' = leb-true (get_or w' 2 0 + (blocks_of c' - 2)) (reached w') k in
            by 0 (λ _. zone_timely B big (chip_of c') h r (passed w') (few_table B big c' st z) b 1 (omega (arith, y, here, B')))
        go false k =
            by M (λ m. timely_more B big (chip_of c') h (passed w') (8 * L + 8) (8 * (1 + M)) (omega arith) (t (omega arith)))

    step_time : (s : Says (Map (List ℕ))) (r : Answer) (e : Ended x noise c f w c' f' w' s r) → Tends c f w → ((m : Map (List ℕ)) → s ≡ done m → 0 < f)
        → InTime (on noise f w) c L → InTime (on noise f' w') c' (late_after c' w' r (L + failed f f'))
    step_time s r e tended lit t = go s refl (e.right (tends_kept c f w tended)).ends
      where
        sized : length c' ≡ 4096 * B
        sized = did_length e.did ∙ size

        go : (a : Says (Map (List ℕ))) → s ≡ a → ChangesBy x c f w c' f' w' e.did.ops a r → InTime (on noise f' w') c' (late_after c' w' r (L + failed f f'))
        go (refused k) d (er, ec, ew, ef, eo) =
            subst (λ (a : Answer). InTime (on noise f' w') c' (late_after c' w' a (L + failed f f'))) (sym er)
            (subst (λ (l : List ℕ). InTime (on noise f' w') l (L + failed f f')) (sym ec)
            (subst (λ (l : List ℕ). InTime (on noise f' l) c (L + failed f f')) (sym ew)
            (on_more noise noise f f' w c L (L + failed f f') (omega arith) (λ l. omega (arith, ef, l)) t)))
        go (done m) d (inl (er, on-still, marked, holds, k)) =
            subst (λ (a : Answer). InTime (on noise f' w') c' (late_after c' w' a (L + failed f f'))) (sym er)
            (done_time (L + failed f f') (omega arith) sized k.store holds (stepped true (passed w') e.did.ops m sized k (t.1 (lit m d))).0)
        go (done m) d (inr (er, gone, marked, (p, k))) =
            subst (λ (a : Answer). InTime (on noise f' w') c' (late_after c' w' a (L + failed f f'))) (sym er) (cut (stepped false p e.did.ops m sized k (t.1 (lit m d))).0)
          where
            cut : Left B (L ≤ 5) L false (chip_of c') p → InTime (on noise f' w') c' (L + failed f f')
            cut (h, r, y) = (
              λ l.
                  let z : failed f f' ≡ 1 = goes_dark B big f f' (lit m d) gone in
                  let v = y (omega arith) in (
                    v.0,
                    subst (λ (i : ℕ). Timely B (chip_of c') i v.0 (8 * (1 + (L + failed f f')))) (sym (ring_head B big (chip_of c') h r))
                        (timely_more B big (chip_of c') h v.0 (8 * L + 16) (8 * (1 + (L + failed f f'))) (omega arith) v.1),
                  ),
              λ l. absurd (omega arith),
            )

    -- how much it does
    step_short : (s : Says (Map (List ℕ))) (r : Answer) (e : Ended x noise c f w c' f' w' s r) → Tends c f w → ((m : Map (List ℕ)) → s ≡ done m → 0 < f)
        → InTime (on noise f w) c L → L ≤ 5 → (erases e.did.ops ≤ 1) × (writes e.did.ops ≤ 10 + L)
    step_short s r e tended lit t l = go s refl (e.right (tends_kept c f w tended)).ends
      where
        sized : length c' ≡ 4096 * B
        sized = did_length e.did ∙ size

        go : (a : Says (Map (List ℕ))) → s ≡ a → ChangesBy x c f w c' f' w' e.did.ops a r → (erases e.did.ops ≤ 1) × (writes e.did.ops ≤ 10 + L)
        go (refused k) d (er, ec, ew, ef, eo) = (omega (arith, ap erases eo), omega (arith, ap writes eo))
        go (done m) d (inl (er, on-still, marked, holds, k)) = (stepped true (passed w') e.did.ops m sized k (t.1 (lit m d))).1 l
        go (done m) d (inr (er, gone, marked, (p, k))) = (stepped false p e.did.ops m sized k (t.1 (lit m d))).1 l

  -- ---- EVERY HISTORY
  in_time : {s : Phase} {c : List ℕ} {n q : ℕ} {ops : List Op} (h : History B s c n q ops) → InTime s c (late h)
  in_time (begin c z f) = blank_time c f
  in_time (found c z s) = λ l. absurd (omega arith)
  in_time (dark {s} {c} h) = somewhere_more c (late h) (suc (late h)) (omega arith) (somewhere_of s c (late h) (in_time h))
  in_time (lend {noise} {f} {w} {c} noise' f' z h) =
      on_more noise noise' f f' w c (late h) (late h + failed f f') (omega arith) (λ l. lit_before B big f f' (λ e. omega (arith, z e)) l) (in_time h)
  in_time (start {s} {c} noise f w w' r e h) = start_time s noise c f w w' r (late h) (lives B big h).size e (in_time h)
  in_time (put {noise} {f} {w} {c} key value c' f' w' r e h) =
      step_time (record_of false key value) noise c f w c' f' w' (late h) (lives B big h).size (lives B big h).store (put_answer (lent_of c f w) key value (map_in c)) r e (lives B big h).tended
      (λ m d. lit_on B big f w c _ m (sym (lent_on_lem c f w _ (lives B big h).tended) ∙ d)) (in_time h)
  in_time (delete {noise} {f} {w} {c} key c' f' w' r e h) =
      step_time (record_of true key []) noise c f w c' f' w' (late h) (lives B big h).size (lives B big h).store (delete_answer (lent_of c f w) key (map_in c)) r e (lives B big h).tended
      (λ m d. lit_on B big f w c _ m (sym (lent_on_lem c f w _ (lives B big h).tended) ∙ d)) (in_time h)
  in_time (get key b b' r e h) = in_time h
  in_time (count r e h) = in_time h
  in_time (next_step key b b' r e h) = in_time h

  module _ {noise : List ℕ} {f : ℕ} {w c : List ℕ} {n q : ℕ} {ops : List Op} (h : History B (on noise f w) c n q ops) (l : late h ≤ 5) where
    pub put_short : (key value c' : List ℕ) (f' : ℕ) (w' : List ℕ) (r : Answer) (e : PutEnds noise c f w key value c' f' w' r)
        → (erases e.did.ops ≤ 1) × (writes e.did.ops ≤ 10 + late h)
    put_short key value c' f' w' r e =
        step_short (record_of false key value) noise c f w c' f' w' (late h) (lives B big h).size (lives B big h).store (put_answer (lent_of c f w) key value (map_in c)) r e (lives B big h).tended
        (λ m d. lit_on B big f w c _ m (sym (lent_on_lem c f w _ (lives B big h).tended) ∙ d)) (in_time h) l

    pub delete_short : (key c' : List ℕ) (f' : ℕ) (w' : List ℕ) (r : Answer) (e : DeleteEnds noise c f w key c' f' w' r)
        → (erases e.did.ops ≤ 1) × (writes e.did.ops ≤ 10 + late h)
    delete_short key c' f' w' r e =
        step_short (record_of true key []) noise c f w c' f' w' (late h) (lives B big h).size (lives B big h).store (delete_answer (lent_of c f w) key (map_in c)) r e (lives B big h).tended
        (λ m d. lit_on B big f w c _ m (sym (lent_on_lem c f w _ (lives B big h).tended) ∙ d)) (in_time h) l
