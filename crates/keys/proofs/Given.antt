-- What an answer of next says of the map: a length, that the key at the start of the buffer is the next one; 4, that there is none. Assumes nothing.
use mathlib.Core.Path.{◌≡◌, refl, sym, ap, ◌∙◌, subst}
use mathlib.Core.Logic.{◌⊎◌, inl, inr}
use mathlib.Core.List.{List, ◌++◌}
use mathlib.Core.Option.{Option, none, some}
use mathlib.Core.Bool.{Bool}
use Prim.Native.Nat.{ℕ, suc, ◌≤◌, ◌<◌}
use native.Mathlib.Omega.{arith}
use lib.ListN.{length, take, drop}
use lib.Seq.{take-append_seam}
use borrow.Author.Tests.{eq-eqb, ne_eqb, lt-leb}
use Rattle.ring_log.specs.Key.{Key}
use Rattle.ring_log.specs.Map.{Map}
use Rattle.ring_log.specs.Answers.{Lent, refuse, refused, done, gotten}
use Rattle.ring_log.specs.Answers.{Answer as Says}
use Rattle.ring_log.proofs.AnswerLaws.{refuse_other, refuse_done, done_never, done_is}
use Rattle.lent.specs.Area.{Sized, map_in, mark, lent_of}
use Rattle.fetch.specs.Fetched.{GetsBy, Gets}
use Rattle.lent.specs.Ended.{Answer, Done, Refused}
use Rattle.lent.proofs.Numbers.{sizes_hold, done_inj, refused_inj, done≢refused}
use Rattle.keys.specs.Next.{next_key, next_answer}
use Rattle.keys.proofs.Chips.{map_key}
use Rattle.keys.proofs.Walks.{next_has}

-- ---- an answer of the code is that of the document
pub says_done : (b b' : List ℕ) (s : Says (ℕ × List ℕ)) (n : ℕ) → Gets b b' s (Done n) → s ≡ done (n, b')
says_done b b' s n g = go s g.ends
  where
    go : (s : Says (ℕ × List ℕ)) → GetsBy b b' s (Done n) → s ≡ done (n, b')
    go (refused k) (e, q) = absurd (done≢refused n k e)
    go (done v) (e, q) = let d : v.0 ≡ n = sym (done_inj n v.0 e) in let o : v.1 ≡ b' = sym q in λ i. done (d i, o i)

pub says_refused : (b b' : List ℕ) (s : Says (ℕ × List ℕ)) (k : ℕ) → Gets b b' s (Refused k) → s ≡ refused k
says_refused b b' s k g = go s g.ends
  where
    go : (s : Says (ℕ × List ℕ)) → GetsBy b b' s (Refused k) → s ≡ refused k
    go (refused j) (e, q) = ap (λ (i : ℕ). refused i) (sym (refused_inj k j e))
    go (done v) (e, q) = absurd (done≢refused v.0 k (sym e))

-- ---- what is behind the tests

-- a key that was gotten stands at the start of the buffer
pub gotten_done : (b b' : List ℕ) (n : ℕ) (o : Option Key) → gotten b o ≡ done (n, b') → o ≡ some (take n b')
gotten_done b b' n none e = absurd (done_never (n, b') 4 (sym e))
gotten_done b b' n (some k) e =
    let q : ◌≡◌ {A = ℕ × List ℕ} (length k, k ++ drop (length k) b) (n, b') = done_is _ (n, b') (refuse_done 6 _ _ (n, b') e).1 in
    ap (λ (x : Key). some x) (sym (take-append_seam k (drop (length k) b)) ∙ ap (λ (v : ℕ × List ℕ). take v.0 v.1) q)

gotten_refused : (b : List ℕ) (o : Option Key) → gotten b o ≡ refused 4 → o ≡ none
gotten_refused b none e = refl
gotten_refused b (some k) e = absurd (done_never _ 4 (refuse_other 6 4 _ _ (λ q. omega arith) e))

module _ (l : Lent) (k : Key) (m : Map (List ℕ)) (b b' : List ℕ) where
  -- IT ANSWERED n: the key that stands in the first n bytes of the buffer is the next one
  pub next_given : (n : ℕ) → Gets b b' (next_answer l k b m) (Done n) → next_key k m ≡ some (take n b')
  next_given n g =
      gotten_done b b' n (next_key k m)
      (refuse_done 1 _ _ (n, b')
      (refuse_done 8 _ _ (n, b') (refuse_done 7 _ _ (n, b') (refuse_done 5 _ _ (n, b') (says_done b b' (next_answer l k b m) n g)).1).1).1).1

  -- IT ANSWERED 4: there is no next key
  pub next_ended : Gets b b' (next_answer l k b m) (Refused 4) → next_key k m ≡ none
  next_ended g =
      gotten_refused b (next_key k m)
      (refuse_other 1 4 _ _ (λ q. omega arith)
      (refuse_other 8 4 _ _ (λ q. omega arith)
      (refuse_other 7 4 _ _ (λ q. omega arith) (refuse_other 5 4 _ _ (λ q. omega arith) (says_refused b b' (next_answer l k b m) 4 g)))))

-- ---- ON A READY STORE: a key is given, or there is none. A key that is given back and a buffer of 16 bytes are never refused
module _ (c : List ℕ) (f : ℕ) (w k b b' : List ℕ) (s : Sized c w) (lit : 0 < f) (marked : mark w ≡ 1) (short : length k ≤ 16) (long : 16 ≤ length b) where
  ready : next_answer (lent_of c f w) k b (map_in c) ≡ gotten b (next_key k (map_in c))
  unfolding refuse
  ready =
      rw
      (sizes_hold c w s, ne_eqb f 0 (λ e. omega arith), ne_eqb (mark w) 2 (λ e. omega arith), eq-eqb (mark w) 1 marked, lt-leb 17 (length k) (omega arith))

  fits : (j : Key) → next_key k (map_in c) ≡ some j → gotten b (some j) ≡ done (length j, j ++ drop (length j) b)
  unfolding refuse
  fits j e =
      let l : length j ≤ 16 = (map_key c s.some_blocks s.whole j (next_has k (map_in c) j e)).1 in
      ap (λ (t : Bool). refuse 6 t (done (length j, j ++ drop (length j) b))) (lt-leb (suc (length b)) (length j) (omega arith))

  by_answer : (o : Option Key) → next_key k (map_in c) ≡ o → (r : Answer) → Gets b b' (gotten b o) r → (r ≡ Refused 4) ⊎ ((n : ℕ) × (r ≡ Done n))
  by_answer none e r g = inl g.ends.0
  by_answer (some j) e r g = inr (length j, (subst (λ (t : Says (ℕ × List ℕ)). Gets b b' t r) (fits j e) g).ends.0)

  pub next_answers : (r : Answer) → Gets b b' (next_answer (lent_of c f w) k b (map_in c)) r → (r ≡ Refused 4) ⊎ ((n : ℕ) × (r ≡ Done n))
  next_answers r g = by_answer (next_key k (map_in c)) refl r (subst (λ (t : Says (ℕ × List ℕ)). Gets b b' t r) ready g)
