-- THE THREE DEMANDS OF EVERY HISTORY: by induction over its steps, which are the contracts of the calls. Assumes nothing.
use mathlib.Core.Path.{◌≡◌, refl, sym, ap, ◌∙◌, subst}
use mathlib.Core.Logic.{inl, inr}
use mathlib.Core.List.{List, [], ◌++◌, append-nil}
use mathlib.Core.Bool.{Bool, true, false, cond, ◌&&◌, true≢false}
use Prim.Native.Nat.{ℕ, zero, suc, ◌+◌, ◌*◌, ◌/◌, ◌≤◌, ◌<◌}
use native.Mathlib.Omega.{arith}
use lib.Dec.{eqb, leb}
use lib.ListN.{length}
use borrow.Author.Tests.{eq-eqb, ne_eqb, le-leb, not-false}
use Rattle.chip.specs.Play.{Op, erases}
use Rattle.chip.proofs.Plays.{did_length}
use Rattle.record.specs.Record.{Rec, record_of}
use Rattle.ring_log.specs.Map.{Map}
use Rattle.ring_log.specs.Ring.{chip_of, head, Ring, ring_test, table, map_of, room}
use Rattle.ring_log.specs.Call.{resting, Trace}
use Rattle.ring_log.specs.Call.{begin as called}
use Rattle.ring_log.specs.Wear.{erases_of, missed}
use Rattle.ring_log.specs.Answers.{refuse, refused, done, lent, put_answer, get_answer, delete_answer, count_answer, start_answer}
use Rattle.ring_log.specs.Answers.{Answer as Says}
use Rattle.ring_log.proofs.RingLaws.{ring_head, ring_test_lem}
use Rattle.ring_log.proofs.Start.{blank_ring, blank_map}
use Rattle.ring_log.proofs.AnswerLaws.{refuse_done}
use Rattle.ring_log.proofs.WearCall.{Worn, worn_blank, worn_dark, worn_call, worn_even, worn_few}
use Rattle.lent.specs.Area.{blocks_of, Sized, map_in, mark, passed, lent_of, lent_to_start, Holds, Kept, Store}
use Rattle.fetch.specs.Fetched.{Gets, Counts, GetEnds, CountEnds}
use Rattle.change.specs.Changed.{ChangesBy, Ended, PutEnds, DeleteEnds, Came}
use Rattle.start.specs.Started.{StartsBy, StartEnds}
use Rattle.lent.specs.Ended.{Answer, Done}
use Rattle.lent.proofs.Held.{map_rows}
use Rattle.lent.proofs.Numbers.{sizes_hold, sizes_sized}
use Rattle.keys.specs.Next.{next_answer, NextEnds}
use Rattle.histories.specs.History.{Phase, off, on, started, failed, counted, History, Fresh, begin, found, dark, lend, start, put, delete, get, count, next, lent_on, ToldBy, Tells}

-- ---- WHILE THE STORE IS ON: the sizes are allowed; and where there is power, the area is ready, and says what is true of the chip
pub record Tends (c : List ℕ) (f : ℕ) (w : List ℕ) : Type 0 where
  pub sized : Sized c w
  pub lit : 0 < f → (mark w ≡ 1) × Holds c w

abbrev Tended : Phase → List ℕ → Type 0
Tended off c = Unit {0}
Tended (on noise f w) c = Tends c f w

-- so the area is as start and the calls since left it
pub tends_kept : (c : List ℕ) (f : ℕ) (w : List ℕ) → Tends c f w → Kept c f w
tends_kept c f w t = record { holds = λ _ l _. (t.lit l).1 }

-- and what the code finds in the area is what the phase says
pub lent_on_lem : {A : Type 0} (c : List ℕ) (f : ℕ) (w : List ℕ) (a : Says A) → Tends c f w → lent (lent_of c f w) a ≡ lent (lent_on c f w) a
unfolding refuse
lent_on_lem c f w a t = go f refl
  where
    go : (g : ℕ) → f ≡ g → lent (lent_of c g w) a ≡ lent (lent_on c g w) a
    go zero e = refl
    go (suc g) e =
        let m : mark w ≡ 1 = (t.lit (omega arith)).0 in
        rw (ne_eqb (suc g) 0 (λ e. omega arith), ne_eqb (mark w) 2 (λ e. omega arith), eq-eqb (mark w) 1 m)

-- chip and area keep their lengths
pub sized_after : (c w c' w' : List ℕ) → Sized c w → length c' ≡ length c → length w' ≡ length w → Sized c' w'
sized_after c w c' w' s ec ew =
    let b : blocks_of c' ≡ blocks_of c = ap (λ (i : ℕ). i / 4096) ec in
    record {
      whole = omega (arith, s.whole, ec, b);
      some_blocks = omega (arith, s.some_blocks, b);
      few_blocks = omega (arith, s.few_blocks, b);
      long = omega (arith, s.long, b, ew);
    }

module _ (B : ℕ) (big : 4 ≤ B) where
  -- WHAT HOLDS AFTER EVERY HISTORY, and of wear where F holds: where it began with a blank chip
  pub record Lives (F : Type 0) (s : Phase) (c : List ℕ) (n q : ℕ) (ops : List Op) : Type 0 where
    pub size : length c ≡ 4096 * B
    pub store : Store c
    pub tended : Tended s c
    pub worn : F → Worn B n q ops (chip_of c)

  pub blocks_are : (c : List ℕ) → length c ≡ 4096 * B → blocks_of c ≡ B
  blocks_are c e = omega arith

  -- a store has no more rows than there is room for
  pub few_table : (c : List ℕ) → Store c → length c ≡ 4096 * B → length (table B (chip_of c)) ≤ room B
  few_table c s e =
      let b : blocks_of c ≡ B = blocks_are c e in
      let k : length (map_of B (chip_of c)) ≤ room B = subst (λ (i : ℕ). length (map_of i (chip_of c)) ≤ room i) b s.few in
      omega (arith, k, map_rows B (chip_of c))

  -- ---- counting

  pub none_failed : (f : ℕ) → failed f f ≡ 0
  none_failed zero = refl
  none_failed (suc f) = rw (ne_eqb (suc f) 0 (λ e. omega arith)) (go (leb 1 (suc f)) _)
    where
      go : (b : Bool) (x : ℕ) → cond (b && false) x 0 ≡ 0
      go true x = refl
      go false x = refl

  stays_lit : (f f' : ℕ) → 0 < f' → failed f f' ≡ 0
  stays_lit f f' l = rw (ne_eqb f' 0 (λ e. omega arith)) (go (leb 1 f) _)
    where
      go : (b : Bool) (x : ℕ) → cond (b && false) x 0 ≡ 0
      go true x = refl
      go false x = refl

  pub goes_dark : (f f' : ℕ) → 0 < f → f' ≡ 0 → failed f f' ≡ 1
  goes_dark f f' l e = rw (le-leb 1 f l, eq-eqb f' 0 e)

  -- ---- A PUT OR A DELETE
  module _ (F : Type 0) (x : Rec) (noise c : List ℕ) (f : ℕ) (w c' : List ℕ) (f' : ℕ) (w' : List ℕ) (n q : ℕ) (ops : List Op) where
    -- the steps of a call wear the chip
    step_worn : (b : Bool) (p s : ℕ) (l : List Op) (m : Map (List ℕ)) → length c' ≡ 4096 * B → Lives F (on noise f w) c n q ops → F → Came b x p s c c' l m
        → Worn B (suc n) (q + missed b) (ops ++ l) (chip_of c')
    step_worn b p s l m z y i k =
        worn_call B big n q ops x (called p) (chip_of c) (chip_of c') s l b (few_table c y.store y.size) (few_table c' k.store z)
        (subst (λ (i : ℕ). Trace i x (called p) (resting (chip_of c) (head i (chip_of c))) (chip_of c') s l b) (blocks_are c y.size) k.trace) (y.worn i)

    -- 0 < f where document 01 does not refuse with 7
    pub step_lives : (s : Says (Map (List ℕ))) (r : Answer) (e : Ended x noise c f w c' f' w' s r) → ((m : Map (List ℕ)) → s ≡ done m → 0 < f)
        → Lives F (on noise f w) c n q ops → Lives F (on noise f' w') c' (n + counted f f' r) (q + failed f f') (ops ++ e.did.ops)
    step_lives s r e lit y = go s refl (e.right (tends_kept c f w y.tended)).ends
      where
        fits : Sized c' w'
        fits = sized_after c w c' w' y.tended.sized (did_length e.did) e.size

        sized : length c' ≡ 4096 * B
        sized = did_length e.did ∙ y.size

        go : (t : Says (Map (List ℕ))) → s ≡ t → ChangesBy x c f w c' f' w' e.did.ops t r → Lives F (on noise f' w') c' (n + counted f f' r) (q + failed f f') (ops ++ e.did.ops)
        go (refused k) d (er, ec, ew, ef, eo) =
            let z : failed f f' ≡ 0 = ap (failed f) ef ∙ none_failed f in
            let a : n + counted f f' r ≡ n = omega (arith, ap (counted f f') er, z) in
            let b : q + failed f f' ≡ q = omega (arith, z) in
            let o : ops ++ e.did.ops ≡ ops = ap (λ (l : List Op). ops ++ l) eo ∙ append-nil ops in
            record {
              size = sized;
              store = subst Store (sym ec) y.store;
              tended = subst (λ (g : ℕ). Tends c' g w') (sym ef) (subst (Tends c' f) (sym ew) (subst (λ (l : List ℕ). Tends l f w) (sym ec) y.tended));
              worn = λ i.
                  subst (λ (l : List ℕ). Worn B (n + counted f f' r) (q + failed f f') (ops ++ e.did.ops) (chip_of l)) (sym ec)
                  (subst (λ (i : ℕ). Worn B i (q + failed f f') (ops ++ e.did.ops) (chip_of c)) (sym a)
                  (subst (λ (i : ℕ). Worn B n i (ops ++ e.did.ops) (chip_of c)) (sym b) (subst (λ (l : List Op). Worn B n q l (chip_of c)) (sym o) (y.worn i))));
            }
        go (done m) d (inl (er, on-still, marked, holds, k)) =
            let z : failed f f' ≡ 0 = stays_lit f f' on-still in
            let a : suc n ≡ n + counted f f' r = omega (arith, ap (counted f f') er) in
            let b : q + 0 ≡ q + failed f f' = omega (arith, z) in
            record {
              size = sized;
              store = k.store;
              tended = record { sized = fits; lit = λ _. (marked, holds) };
              worn = λ i.
                  subst (λ (i : ℕ). Worn B i (q + failed f f') (ops ++ e.did.ops) (chip_of c')) a
                  (subst (λ (i : ℕ). Worn B (suc n) i (ops ++ e.did.ops) (chip_of c')) b (step_worn true (passed w) (passed w') e.did.ops m sized y i k));
            }
        go (done m) d (inr (er, gone, marked, (p, k))) =
            let z : failed f f' ≡ 1 = goes_dark f f' (lit m d) gone in
            let a : suc n ≡ n + counted f f' r = omega (arith, ap (counted f f') er, z) in
            let b : q + 1 ≡ q + failed f f' = omega (arith, z) in
            record {
              size = sized;
              store = k.store;
              tended = record { sized = fits; lit = λ l. absurd (omega arith) };
              worn = λ i.
                  subst (λ (i : ℕ). Worn B i (q + failed f f') (ops ++ e.did.ops) (chip_of c')) a
                  (subst (λ (i : ℕ). Worn B (suc n) i (ops ++ e.did.ops) (chip_of c')) b (step_worn false (passed w) p e.did.ops m sized y i k));
            }

    -- and what the documents say of it
    pub step_told : (s : Says (Map (List ℕ))) (r : Answer) (e : Ended x noise c f w c' f' w' s r) → Kept c f w → ToldBy s f' r (map_in c) (map_in c')
    step_told s r e kept = go s (e.right kept).ends
      where
        go : (t : Says (Map (List ℕ))) → ChangesBy x c f w c' f' w' e.did.ops t r → ToldBy t f' r (map_in c) (map_in c')
        go (refused k) (er, ec, ew, ef, eo) = (er, ap map_in ec)
        go (done m) (inl (er, on-still, marked, holds, k)) = inl (er, k.map)
        go (done m) (inr (er, gone, marked, (p, k))) = inr (er, gone, k.map)

  -- ---- an answer that is done comes with power
  pub lit_on : (f : ℕ) (w c : List ℕ) (a : Says (Map (List ℕ))) (m : Map (List ℕ)) → lent (lent_on c f w) a ≡ done m → 0 < f
  lit_on f w c a m e = go f (refuse_done 7 (eqb f 0) _ m (refuse_done 5 _ _ m e).1).0
    where
      go : (g : ℕ) → eqb g 0 ≡ false → 0 < g
      go zero z = absurd (true≢false z)
      go (suc g) z = omega arith

  -- ---- A START
  module _ (s : Phase) (noise c : List ℕ) (f : ℕ) (w w' : List ℕ) where
    -- it is done only where the sizes are allowed
    start_sized : (m : Map (List ℕ)) → start_answer (lent_to_start c f w) (chip_of c) ≡ done m → Sized c w
    start_sized m e = sizes_sized c w (not-false _ (refuse_done 5 _ _ m e).0)

    tended_by : (a : Says (Map (List ℕ))) (r : Answer) → ((m : Map (List ℕ)) → a ≡ done m → Sized c w) → length w' ≡ length w → StartsBy c w w' a r → Tended s c
        → Tended (started s noise f w' r) c
    tended_by (refused k) r z l (er, x, y) t = subst (λ (a : Answer). Tended (started s noise f w' a) c) (sym er) (go (eqb k 8))
      where
        go : (b : Bool) → Tended (cond b off s) c
        go true = tt
        go false = t
    tended_by (done m) r z l (er, marked, holds) t =
        subst (λ (a : Answer). Tended (started s noise f w' a) c) (sym er)
        (record { sized = sized_after c w c w' (z m refl) refl l; lit = λ _. (marked, holds) })

  -- ---- ANOTHER SCRIPT
  module _ (f f' : ℕ) where
    -- power that is there was there before
    pub lit_before : (f ≡ 0 → f' ≡ 0) → 0 < f' → 0 < f
    lit_before z l = go f refl
      where
        go : (g : ℕ) → f ≡ g → 0 < f
        go zero e = absurd (omega (arith, z e))
        go (suc g) e = omega arith

    -- where it fails between two calls, that is counted
    worn_lent : (n q : ℕ) (ops : List Op) (c : List ℕ) → Worn B n q ops (chip_of c) → Worn B n (q + failed f f') ops (chip_of c)
    worn_lent n q ops c y = go (leb 1 f && eqb f' 0)
      where
        go : (b : Bool) → Worn B n (q + cond b 1 0) ops (chip_of c)
        go true = let e : suc q ≡ q + 1 = omega arith in subst (λ (i : ℕ). Worn B n i ops (chip_of c)) e (worn_dark B big n q ops (chip_of c) y)
        go false = let e : q ≡ q + 0 = omega arith in subst (λ (i : ℕ). Worn B n i ops (chip_of c)) e y

  -- ---- EVERY HISTORY
  pub lives : {s : Phase} {c : List ℕ} {n q : ℕ} {ops : List Op} (h : History B s c n q ops) → Lives (Fresh h) s c n q ops
  lives (begin c z f) =
      let b : B ≡ blocks_of c = sym (blocks_are c z) in
      record {
        size = z;
        store =
            record {
              ring = subst (λ (i : ℕ). (h : ℕ) × Ring i (chip_of c) h) b (0, blank_ring B big (chip_of c) f);
              few = subst (λ (i : ℕ). length (map_of i (chip_of c)) ≤ room i) b (omega (arith, ap length (blank_map B big (chip_of c) f)));
            };
        tended = tt;
        worn = λ _. worn_blank B big (chip_of c) f;
      }
  lives (found c z s) = record { size = z; store = s; tended = tt; worn = λ i. absurd i }
  lives (dark {s} {c} {n} {q} {ops} h) =
      let y : Lives (Fresh h) s c n q ops = lives h in
      record { size = y.size; store = y.store; tended = tt; worn = λ i. worn_dark B big n q ops (chip_of c) (y.worn i) }
  lives (lend {noise} {f} {w} {c} {n} {q} {ops} noise' f' z h) =
      let y : Lives (Fresh h) (on noise f w) c n q ops = lives h in
      record {
        size = y.size;
        store = y.store;
        tended = record { sized = y.tended.sized; lit = λ l. y.tended.lit (lit_before f f' (λ e. omega (arith, z e)) l) };
        worn = λ i. worn_lent f f' n q ops c (y.worn i);
      }
  lives (start {s} {c} {n} {q} {ops} noise f w w' r e h) =
      let y : Lives (Fresh h) s c n q ops = lives h in
      record {
        size = y.size;
        store = y.store;
        tended = tended_by s noise c f w w' (start_answer (lent_to_start c f w) (chip_of c)) r (start_sized s noise c f w w') e.size e.ends y.tended;
        worn = y.worn;
      }
  lives (put {noise} {f} {w} {c} {n} {q} {ops} key value c' f' w' r e h) =
      step_lives (Fresh h) (record_of false key value) noise c f w c' f' w' n q ops (put_answer (lent_of c f w) key value (map_in c)) r e
      (λ m d. lit_on f w c _ m (sym (lent_on_lem c f w _ (lives h).tended) ∙ d)) (lives h)
  lives (delete {noise} {f} {w} {c} {n} {q} {ops} key c' f' w' r e h) =
      step_lives (Fresh h) (record_of true key []) noise c f w c' f' w' n q ops (delete_answer (lent_of c f w) key (map_in c)) r e
      (λ m d. lit_on f w c _ m (sym (lent_on_lem c f w _ (lives h).tended) ∙ d)) (lives h)
  lives (get key b b' r e h) = lives h
  lives (count r e h) = lives h
  lives (next key b b' r e h) = lives h

  module _ {s : Phase} {c : List ℕ} {n q : ℕ} {ops : List Op} (h : History B s c n q ops) where
    -- START ALWAYS SUCCEEDS, where the sizes are allowed and there is power: the map is the one that was there
    pub start_succeeds : (f : ℕ) (w : List ℕ) → Sized c w → 0 < f → start_answer (lent_to_start c f w) (chip_of c) ≡ done (map_in c)
    unfolding refuse
    start_succeeds f w z l =
        let y : Lives (Fresh h) s c n q ops = lives h in
        let g : ℕ = y.store.ring.0 in
        let r : ring_test (blocks_of c) (chip_of c) (head (blocks_of c) (chip_of c)) ≡ true =
        ring_test_lem (blocks_of c) (chip_of c) (head (blocks_of c) (chip_of c))
        (subst (Ring (blocks_of c) (chip_of c)) (sym (ring_head (blocks_of c) z.some_blocks (chip_of c) g y.store.ring.1)) y.store.ring.1) in
        rw (sizes_hold c w z, ne_eqb f 0 (λ e. omega arith), r, le-leb (length (map_in c)) (room (blocks_of c)) y.store.few)

    -- and so does the code: it answers done, and the area says what is true
    pub start_done : (f : ℕ) (w w' : List ℕ) (r : Answer) → Sized c w → 0 < f → StartEnds c f w w' r → (r ≡ Done 0) × (mark w' ≡ 1) × Holds c w'
    start_done f w w' r z l e = subst (λ (t : Says (Map (List ℕ))). StartsBy c w w' t r) (start_succeeds f w z l) e.ends

  -- ---- WHAT EACH CALL ANSWERS, by the phase
  module _ {noise : List ℕ} {f : ℕ} {w c : List ℕ} {n q : ℕ} {ops : List Op} (h : History B (on noise f w) c n q ops) where
    pub tends : Tends c f w
    tends = (lives h).tended

    pub kept : Kept c f w
    kept = tends_kept c f w tends

    module _ (key c' : List ℕ) (f' : ℕ) (w' : List ℕ) (r : Answer) where
      pub put_told : (value : List ℕ) → PutEnds noise c f w key value c' f' w' r → ToldBy (put_answer (lent_on c f w) key value (map_in c)) f' r (map_in c) (map_in c')
      put_told value e =
          subst (λ (s : Says (Map (List ℕ))). ToldBy s f' r (map_in c) (map_in c')) (lent_on_lem c f w _ tends)
          (step_told (Fresh h) (record_of false key value) noise c f w c' f' w' n q ops (put_answer (lent_of c f w) key value (map_in c)) r e kept)

      pub delete_told : DeleteEnds noise c f w key c' f' w' r → ToldBy (delete_answer (lent_on c f w) key (map_in c)) f' r (map_in c) (map_in c')
      delete_told e =
          subst (λ (s : Says (Map (List ℕ))). ToldBy s f' r (map_in c) (map_in c')) (lent_on_lem c f w _ tends)
          (step_told (Fresh h) (record_of true key []) noise c f w c' f' w' n q ops (delete_answer (lent_of c f w) key (map_in c)) r e kept)

    module _ (key b b' : List ℕ) (r : Answer) where
      pub get_told : GetEnds c f w key b b' r → Gets b b' (get_answer (lent_on c f w) key b (map_in c)) r
      get_told e = subst (λ (s : Says (ℕ × List ℕ)). Gets b b' s r) (lent_on_lem c f w _ tends) (e kept)

      pub next_told : NextEnds c f w key b b' r → Gets b b' (next_answer (lent_on c f w) key b (map_in c)) r
      next_told e = subst (λ (s : Says (ℕ × List ℕ)). Gets b b' s r) (lent_on_lem c f w _ tends) (e kept)

    pub count_told : (r : Answer) → CountEnds c f w r → Counts (count_answer (lent_on c f w) (map_in c)) r
    count_told r e = subst (λ (s : Says ℕ). Counts s r) (lent_on_lem c f w _ tends) (e kept)

  -- RIGHT, AND CRASH-PROOF: after every history the chip's map is one that the documents allow, and every answer was document 01's
  pub right : {s : Phase} {c : List ℕ} {n q : ℕ} {ops : List Op} (h : History B s c n q ops) → Tells h (map_in c)
  right (begin c z f) = subst (λ (i : ℕ). map_of i (chip_of c) ≡ []) (sym (blocks_are c z)) (blank_map B big (chip_of c) f)
  right (found c z s) = refl
  right (dark h) = right h
  right (lend noise' f' z h) = right h
  right (start noise f w w' r e h) = (right h, λ z l. (start_done h f w w' r z l e).0)
  right (put {noise} {f} {w} {c} key value c' f' w' r e h) = (map_in c, right h, put_told h key c' f' w' r value e)
  right (delete {noise} {f} {w} {c} key c' f' w' r e h) = (map_in c, right h, delete_told h key c' f' w' r e)
  right (get key b b' r e h) = (right h, get_told h key b b' r e)
  right (count r e h) = (right h, count_told h r e)
  right (next key b b' r e h) = (right h, next_told h key b b' r e)

  module _ {s : Phase} {c : List ℕ} {n q : ℕ} {ops : List Op} (h : History B s c n q ops) where
    -- ---- THEOREM WEAR, of a history that began with a blank chip
    module _ (fresh : Fresh h) where
      -- even: the erases of any two blocks differ by at most 1 + q
      pub wear_even : (i j : ℕ) → i < B → j < B → erases_of i ops ≤ erases_of j ops + (1 + q)
      wear_even i j a b = worn_even B big n q ops (chip_of c) ((lives h).worn fresh) i j a b

      -- few: all erases together are at most n / 6 + q
      pub wear_few : erases ops ≤ n / 6 + q
      wear_few = omega (arith, worn_few B big n q ops (chip_of c) ((lives h).worn fresh))

      -- document 03 asks for n / 4 + 2 q + B
      pub wear_asked : erases ops ≤ n / 4 + 2 * q + B
      wear_asked = omega (arith, wear_few)
