-- WHAT THE CALLS ANSWER WHILE THE STORE IS ON; and each value of the map was put. Assumes nothing.
use mathlib.Core.Path.{◌≡◌, refl, sym, ap, ◌∙◌, subst}
use mathlib.Core.Logic.{◌≢◌, ◌⊎◌, inl, inr}
use mathlib.Core.List.{List, []}
use mathlib.Core.Option.{Option, none, some}
use Prim.Native.Nat.{ℕ, ◌≤◌, ◌<◌}
use native.Mathlib.Omega.{arith}
use lib.ListN.{length, take}
use borrow.Author.Tests.{eq-eqb, ne_eqb}
use Rattle.chip.specs.Play.{Op}
use Rattle.ring_log.specs.Key.{Key, key≟}
use Rattle.ring_log.specs.Map.{Map, lookup, alter}
use Rattle.ring_log.specs.Answers.{refuse, refused, done, lent, gotten, put_answer, delete_answer}
use Rattle.ring_log.specs.Answers.{Answer as Says}
use Rattle.ring_log.proofs.MapLaws.{some≢none, some_inj, lookup_same, lookup_other}
use Rattle.ring_log.proofs.AnswerLaws.{refuse_other, refuse_done, done_never, put_done, delete_done, put_no_9, delete_no_9}
use Rattle.lent.specs.Area.{map_in}
use Rattle.fetch.specs.Fetched.{Gets, Counts, GetEnds, CountEnds}
use Rattle.change.specs.Changed.{PutEnds, DeleteEnds}
use Rattle.lent.specs.Ended.{Answer, Done, Refused}
use Rattle.lent.proofs.Numbers.{sizes_hold, refused_inj, done≢refused}
use Rattle.keys.specs.Next.{next_key, NextEnds}
use Rattle.keys.proofs.Chips.{map_sorted}
use Rattle.keys.proofs.Given.{says_done, says_refused, gotten_done}
use Rattle.histories.specs.History as history
use Rattle.histories.specs.History.{Phase, on, counted, History, begin, found, dark, lend, start, delete, get, count, next, lent_on, ToldBy, WasPut}
use Rattle.histories.specs.Theorems.{OnAnswers}
use Rattle.histories.proofs.Histories.{goes_dark, lit_on, tends, right, put_told, delete_told, get_told, next_told, count_told}

-- ---- an answer of a put or a delete is that of the document, or 7
told_is : (k : ℕ) (s : Says (Map (List ℕ))) (f' : ℕ) (r : Answer) (m m' : Map (List ℕ)) → ToldBy s f' r m m' → r ≡ Refused k → (s ≡ refused k) ⊎ ((k ≡ 7) × (f' ≡ 0))
told_is k (refused i) f' r m m' (er, em) e = inl (ap (λ (j : ℕ). refused j) (refused_inj i k (sym er ∙ e)))
told_is k (done x) f' r m m' (inl (er, em)) e = absurd (done≢refused 0 k (sym er ∙ e))
told_is k (done x) f' r m m' (inr (er, gone, em)) e = inr (sym (refused_inj 7 k (sym er ∙ e)), gone)

told_never : (k : ℕ) (s : Says (Map (List ℕ))) (f' : ℕ) (r : Answer) (m m' : Map (List ℕ)) → k ≢ 7 → s ≢ refused k → ToldBy s f' r m m' → r ≢ Refused k
told_never k s f' r m m' d g t e = go (told_is k s f' r m m' t e)
  where
    go : (s ≡ refused k) ⊎ ((k ≡ 7) × (f' ≡ 0)) → ⊥
    go (inl x) = g x
    go (inr x) = d x.0

told_seven : (s : Says (Map (List ℕ))) (f' : ℕ) (r : Answer) (m m' : Map (List ℕ)) → s ≢ refused 7 → ToldBy s f' r m m' → r ≡ Refused 7 → f' ≡ 0
told_seven s f' r m m' g t e = go (told_is 7 s f' r m m' t e)
  where
    go : (s ≡ refused 7) ⊎ (◌≡◌ {A = ℕ} 7 7 × (f' ≡ 0)) → f' ≡ 0
    go (inl x) = absurd (g x)
    go (inr x) = x.1

-- what is fetched is refused with 4 or 6
gotten_few : (b : List ℕ) (o : Option (List ℕ)) (k : ℕ) → 4 < k → 6 ≢ k → gotten b o ≢ refused k
gotten_few b none k x y e = let z : 4 ≡ k = cc in omega arith
gotten_few b (some u) k x y e = done_never _ k (refuse_other 6 k _ _ y e)

-- the empty map has no value
none_there : (k : Key) → lookup {A = List ℕ} k [] ≡ none
unfolding lookup
none_there k = refl

module _ (B : ℕ) (big : 4 ≤ B) where
  module _ {noise : List ℕ} {f : ℕ} {w c : List ℕ} {n q : ℕ} {ops : List Op} (h : History B (on noise f w) c n q ops) where
    -- ---- what is lent is refused with 7, where the power has gone, and else not at all
    lit_lent : {A : Type 0} (a : Says A) → 0 < f → lent (lent_on c f w) a ≡ a
    unfolding refuse
    lit_lent a l = rw (sizes_hold c w (tends B big h).sized, ne_eqb f 0 (λ e. omega arith))

    dark_lent : {A : Type 0} (a : Says A) → f ≡ 0 → lent (lent_on c f w) a ≡ refused 7
    unfolding refuse
    dark_lent a z = rw (sizes_hold c w (tends B big h).sized, eq-eqb f 0 z)

    -- of a call whose other tests answer neither 5 nor 7 nor 8
    module _ (r : Answer) where
      changed_on : (a : Says (Map (List ℕ))) (f' : ℕ) (m m' : Map (List ℕ)) → ((k : ℕ) → 4 < k → 6 ≢ k → a ≢ refused k) → ToldBy (lent (lent_on c f w) a) f' r m m' → OnAnswers f f' r
      changed_on a f' m m' g t = (
        λ l.
            let u : ToldBy a f' r m m' = subst (λ (s : Says (Map (List ℕ))). ToldBy s f' r m m') (lit_lent a l) t in (
              told_never 5 a f' r m m' (λ e. omega arith) (g 5 (omega arith) (λ e. omega arith)) u,
              told_never 8 a f' r m m' (λ e. omega arith) (g 8 (omega arith) (λ e. omega arith)) u,
              told_seven a f' r m m' (g 7 (omega arith) (λ e. omega arith)) u,
            ),
        λ z. (subst (λ (s : Says (Map (List ℕ))). ToldBy s f' r m m') (dark_lent a z) t).0,
      )

      read_on : (b b' : List ℕ) (a : Says (ℕ × List ℕ)) → ((k : ℕ) → 4 < k → 6 ≢ k → a ≢ refused k) → Gets b b' (lent (lent_on c f w) a) r → OnAnswers f f r
      read_on b b' a g t = (
        λ l.
            let u : Gets b b' a r = subst (λ (s : Says (ℕ × List ℕ)). Gets b b' s r) (lit_lent a l) t in
            let never : (k : ℕ) → 4 < k → 6 ≢ k → r ≢ Refused k = λ k x y e. g k x y (says_refused b b' a k (subst (Gets b b' a) e u)) in
            (never 5 (omega arith) (λ e. omega arith), never 8 (omega arith) (λ e. omega arith), λ e. absurd (never 7 (omega arith) (λ e. omega arith) e)),
        λ z. (subst (λ (s : Says (ℕ × List ℕ)). Gets b b' s r) (dark_lent a z) t).ends.0,
      )

    -- NO CALL ANSWERS 5 OR 8, with power; without it every call answers 7
    pub put_on : (key value c' : List ℕ) (f' : ℕ) (w' : List ℕ) (r : Answer) → PutEnds noise c f w key value c' f' w' r → OnAnswers f f' r
    put_on key value c' f' w' r e =
        changed_on r _ f' (map_in c) (map_in c')
        (λ k x y e.
        done_never _ k
        (refuse_other 3 k _ _ (λ q. omega arith)
        (refuse_other 2 k _ _ (λ q. omega arith) (refuse_other 1 k _ _ (λ q. omega arith) (refuse_other 1 k _ _ (λ q. omega arith) e)))))
        (put_told B big h key c' f' w' r value e)

    pub delete_on : (key c' : List ℕ) (f' : ℕ) (w' : List ℕ) (r : Answer) → DeleteEnds noise c f w key c' f' w' r → OnAnswers f f' r
    delete_on key c' f' w' r e =
        changed_on r _ f' (map_in c) (map_in c')
        (λ k x y e. done_never _ k (refuse_other 4 k _ _ (λ q. omega arith) (refuse_other 1 k _ _ (λ q. omega arith) e))) (delete_told B big h key c' f' w' r e)

    pub get_on : (key b b' : List ℕ) (r : Answer) → GetEnds c f w key b b' r → OnAnswers f f r
    get_on key b b' r e =
        read_on r b b' _ (λ k x y e. gotten_few b (lookup key (map_in c)) k x y (refuse_other 1 k _ _ (λ q. omega arith) e)) (get_told B big h key b b' r e)

    pub next_on : (key b b' : List ℕ) (r : Answer) → NextEnds c f w key b b' r → OnAnswers f f r
    next_on key b b' r e =
        read_on r b b' _ (λ k x y e. gotten_few b (next_key key (map_in c)) k x y (refuse_other 1 k _ _ (λ q. omega arith) e)) (next_told B big h key b b' r e)

    pub count_on : (r : Answer) → CountEnds c f w r → OnAnswers f f r
    count_on r e =
        let t : Counts (lent (lent_on c f w) (done (length (map_in c)))) r = count_told B big h r e in (
          λ l.
              let u : r ≡ Done (length (map_in c)) = (subst (λ (s : Says ℕ). Counts s r) (lit_lent (done (length (map_in c))) l) t).ends in
              (λ e. done≢refused _ 5 (sym u ∙ e), λ e. done≢refused _ 8 (sym u ∙ e), λ e. absurd (done≢refused _ 7 (sym u ∙ e))),
          λ z. (subst (λ (s : Says ℕ). Counts s r) (dark_lent (done (length (map_in c))) z) t).ends,
        )

    -- 9 IS NEVER ANSWERED
    pub put_never_9 : (key value c' : List ℕ) (f' : ℕ) (w' : List ℕ) (r : Answer) → PutEnds noise c f w key value c' f' w' r → r ≢ Refused 9
    put_never_9 key value c' f' w' r e =
        told_never 9 _ f' r (map_in c) (map_in c') (λ e. omega arith) (put_no_9 (lent_on c f w) key value (map_in c)) (put_told B big h key c' f' w' r value e)

    pub delete_never_9 : (key c' : List ℕ) (f' : ℕ) (w' : List ℕ) (r : Answer) → DeleteEnds noise c f w key c' f' w' r → r ≢ Refused 9
    delete_never_9 key c' f' w' r e =
        told_never 9 _ f' r (map_in c) (map_in c') (λ e. omega arith) (delete_no_9 (lent_on c f w) key (map_in c)) (delete_told B big h key c' f' w' r e)

  -- ---- EACH VALUE OF THE MAP WAS PUT
  module _ (k : Key) (v : List ℕ) where
    -- a put: the value is that of before, or the one that was put
    put_had : (f : ℕ) (w c key value c' : List ℕ) (f' : ℕ) (r : Answer) → ToldBy (put_answer (lent_on c f w) key value (map_in c)) f' r (map_in c) (map_in c')
        → lookup k (map_in c') ≡ some v → ((key ≡ k) × (value ≡ v) × (counted f f' r ≡ 1)) ⊎ (lookup k (map_in c) ≡ some v)
    put_had f w c key value c' f' r t e = go (put_answer (lent_on c f w) key value (map_in c)) refl t
      where
        -- the map of after
        after : (m : Map (List ℕ)) → put_answer (lent_on c f w) key value (map_in c) ≡ done m → map_in c' ≡ m → counted f f' r ≡ 1
            → ((key ≡ k) × (value ≡ v) × (counted f f' r ≡ 1)) ⊎ (lookup k (map_in c) ≡ some v)
        after m d q n = by (key≟ k key)
          where
            new : map_in c' ≡ alter key (some value) (map_in c)
            new = q ∙ sym (put_done (lent_on c f w) key value (map_in c) m d).2

            by : Dec (k ≡ key) → ((key ≡ k) × (value ≡ v) × (counted f f' r ≡ 1)) ⊎ (lookup k (map_in c) ≡ some v)
            by (yes z) =
                inl (
                  sym z,
                  some_inj (sym (lookup_same key (some value) (map_in c) (map_sorted c)) ∙ ap (λ (x : Map (List ℕ)). lookup key x) (sym new)
                      ∙ ap (λ (x : Key). lookup x (map_in c')) (sym z) ∙ e),
                  n,
                )
            by (no z) = inr (sym (lookup_other k key (some value) (map_in c) z) ∙ ap (lookup k) (sym new) ∙ e)

        go : (s : Says (Map (List ℕ))) → put_answer (lent_on c f w) key value (map_in c) ≡ s → ToldBy s f' r (map_in c) (map_in c')
            → ((key ≡ k) × (value ≡ v) × (counted f f' r ≡ 1)) ⊎ (lookup k (map_in c) ≡ some v)
        go (refused i) d (er, em) = inr (ap (lookup k) (sym em) ∙ e)
        go (done m) d (inl (er, em)) = after m d em (ap (counted f f') er)
        go (done m) d (inr (er, gone, inl em)) = inr (ap (lookup k) (sym em) ∙ e)
        go (done m) d (inr (er, gone, inr em)) = after m d em (ap (counted f f') er ∙ goes_dark B big f f' (lit_on B big f w c _ m d) gone)

    -- a delete: it is that of before
    delete_had : (f : ℕ) (w c key c' : List ℕ) (f' : ℕ) (r : Answer) → ToldBy (delete_answer (lent_on c f w) key (map_in c)) f' r (map_in c) (map_in c')
        → lookup k (map_in c') ≡ some v → lookup k (map_in c) ≡ some v
    delete_had f w c key c' f' r t e = go (delete_answer (lent_on c f w) key (map_in c)) refl t
      where
        after : (m : Map (List ℕ)) → delete_answer (lent_on c f w) key (map_in c) ≡ done m → map_in c' ≡ m → lookup k (map_in c) ≡ some v
        after m d q = by (key≟ k key)
          where
            new : map_in c' ≡ alter key none (map_in c)
            new = q ∙ sym (delete_done (lent_on c f w) key (map_in c) m d)

            by : Dec (k ≡ key) → lookup k (map_in c) ≡ some v
            by (yes z) =
                absurd (some≢none (sym e ∙ ap (λ (x : Key). lookup x (map_in c')) z ∙ ap (lookup key) new ∙ lookup_same key none (map_in c) (map_sorted c)))
            by (no z) = sym (lookup_other k key none (map_in c) z) ∙ ap (lookup k) (sym new) ∙ e

        go : (s : Says (Map (List ℕ))) → delete_answer (lent_on c f w) key (map_in c) ≡ s → ToldBy s f' r (map_in c) (map_in c') → lookup k (map_in c) ≡ some v
        go (refused i) d (er, em) = ap (lookup k) (sym em) ∙ e
        go (done m) d (inl (er, em)) = after m d em
        go (done m) d (inr (er, gone, inl em)) = ap (lookup k) (sym em) ∙ e
        go (done m) d (inr (er, gone, inr em)) = after m d em

    pub was_put : {s : Phase} {c : List ℕ} {n q : ℕ} {ops : List Op} (h : History B s c n q ops) → lookup k (map_in c) ≡ some v → WasPut h k v
    was_put (begin c z f) e =
        absurd (some≢none (sym e ∙ ap (λ (m : Map (List ℕ)). lookup k m) (right B big (begin c z f)) ∙ none_there k))
    was_put (found c z s) e = e
    was_put (dark h) e = was_put h e
    was_put (lend noise' f' z h) e = was_put h e
    was_put (start noise f w w' r d h) e = was_put h e
    was_put (history.put {noise} {f} {w} {c} key value c' f' w' r d h) e = go (put_had f w c key value c' f' r (put_told B big h key c' f' w' r value d) e) (λ x. was_put h x)
      where
        go : ((key ≡ k) × (value ≡ v) × (counted f f' r ≡ 1)) ⊎ (lookup k (map_in c) ≡ some v) → (lookup k (map_in c) ≡ some v → WasPut h k v)
            → ((key ≡ k) × (value ≡ v) × (counted f f' r ≡ 1)) ⊎ WasPut h k v
        go (inl x) g = inl x
        go (inr x) g = inr (g x)
    was_put (delete {noise} {f} {w} {c} key c' f' w' r d h) e = was_put h (delete_had f w c key c' f' r (delete_told B big h key c' f' w' r d) e)
    was_put (get key b b' r d h) e = was_put h e
    was_put (count r d h) e = was_put h e
    was_put (next key b b' r d h) e = was_put h e

  -- WHAT GET HANDS OUT WAS PUT
  pub got_was_put : {noise : List ℕ} {f : ℕ} {w c : List ℕ} {n q : ℕ} {ops : List Op} (h : History B (on noise f w) c n q ops) (key b b' : List ℕ) (i : ℕ)
      → GetEnds c f w key b b' (Done i) → WasPut h key (take i b')
  got_was_put {noise} {f} {w} {c} h key b b' i e =
      was_put key (take i b') h
      (gotten_done b b' i (lookup key (map_in c))
      (refuse_done 1 _ _ (i, b')
      (refuse_done 8 _ _ (i, b') (refuse_done 7 _ _ (i, b') (refuse_done 5 _ _ (i, b') (says_done b b' _ i (get_told B big h key b b' (Done i) e))).1).1).1).1)
