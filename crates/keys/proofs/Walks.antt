-- What a walk gives. Assumes nothing.
use mathlib.Core.Path.{◌≡◌, refl, sym, ap, ◌∙◌, subst}
use mathlib.Core.Logic.{◌⊎◌, inl, inr, ◌≢◌, if_pos, if_neg}
use mathlib.Core.List.{List, [], ◌∷◌, ◌++◌, append_assoc}
use mathlib.Core.Option.{none, some}
use Prim.Native.Nat.{ℕ, ◌+◌, ◌≤◌}
use native.Mathlib.Nat.{zero-add}
use native.Mathlib.Omega.{arith}
use Rattle.ring_log.specs.Key.{Key, ◌≺◌, tri<, tri≡, tri>, tri, key≟}
use Rattle.ring_log.specs.Map.{Map, lookup, Above, Sorted, keys}
use Rattle.ring_log.proofs.KeyLaws.{≺_irrefl, ≺_trans, ≺_ne, ≺_ne'}
use Rattle.ring_log.proofs.MapLaws.{some≢none, some_inj, lookup_here, lookup_there}
use Rattle.keys.specs.Next.{next_key}
use Rattle.keys.specs.Walk.{Walk, end, step, Has, Each, times, Rise, Had}
use Rattle.keys.proofs.After.{next_here, next_there}

-- ---- A KEY THAT HAS A VALUE, by the first pair
module _ {A : Type 0} (x : Key) (p : Key × A) (m : Map A) where
  -- it is the first, or has its value in the rest
  has_cons : Has x (p ∷ m) → (x ≡ p.0) ⊎ Has x m
  has_cons h = go (key≟ x p.0)
    where
      go : Dec (x ≡ p.0) → (x ≡ p.0) ⊎ Has x m
      go (yes e) = inl e
      go (no e) = inr (h.0, sym (lookup_there x p m e) ∙ h.1)

  cons_has : Has x m → Has x (p ∷ m)
  cons_has h = go (key≟ x p.0)
    where
      go : Dec (x ≡ p.0) → Has x (p ∷ m)
      go (yes e) = (p.1, lookup_here x p m e)
      go (no e) = (h.0, lookup_there x p m e ∙ h.1)

-- no key has a value in the empty map
has_none : {A : Type 0} (x : Key) → Has {A = A} x [] → ⊥
unfolding lookup
has_none x h = some≢none (sym h.1)

-- a key of a map all of whose keys come after k comes after k
above_has : {A : Type 0} (k x : Key) (m : Map A) → Above k m → Has x m → k ≺ x
above_has k x [] a h = absurd (has_none x h)
above_has k x (p ∷ m) a h = elim (has_cons x p m h) [ inl e ↦ subst (λ (y : Key). k ≺ y) (sym e) a.0 | inr g ↦ above_has k x m a.1 g ]

-- ---- THE NEXT KEY
module _ {A : Type 0} (k : Key) where
  -- by whether the first key comes after k
  cases : (p : Key × A) → (k ≺ p.0) ⊎ (k ≺ p.0 → ⊥)
  cases p = elim (tri k p.0) [ tri< h ↦ inl h | tri≡ h ↦ inr (λ l. ≺_ne k p.0 l h) | tri> h ↦ inr (λ l. ≺_irrefl k (≺_trans k p.0 k l h)) ]

  -- a key after k that has a value is not the first, if that doesn't come after k
  has_rest : (p : Key × A) (m : Map A) (x : Key) → (k ≺ p.0 → ⊥) → k ≺ x → (x ≡ p.0) ⊎ Has x m → Has x m
  has_rest p m x h l (inl d) = absurd (h (subst (λ (y : Key). k ≺ y) d l))
  has_rest p m x h l (inr d) = d

  -- IT COMES AFTER k
  pub next_after : (m : Map A) (j : Key) → next_key k m ≡ some j → k ≺ j
  unfolding next_key
  next_after [] j e = absurd (some≢none (sym e))
  next_after (p ∷ m) j e =
      elim (cases p) [
        | inl h ↦ subst (λ (x : Key). k ≺ x) (some_inj (sym (next_here k p m h) ∙ e)) h
        | inr h ↦ next_after m j (sym (next_there k p m h) ∙ e)
      ]

  -- IT HAS A VALUE
  pub next_has : (m : Map A) (j : Key) → next_key k m ≡ some j → Has j m
  unfolding next_key
  next_has [] j e = absurd (some≢none (sym e))
  next_has (p ∷ m) j e =
      elim (cases p) [
        | inl h ↦ (p.1, lookup_here j p m (some_inj (sym e ∙ next_here k p m h)))
        | inr h ↦ cons_has j p m (next_has m j (sym (next_there k p m h) ∙ e))
      ]

  -- AND NO KEY BETWEEN THE TWO HAS ONE
  pub next_least : (m : Map A) (j x : Key) → Sorted m → next_key k m ≡ some j → Has x m → k ≺ x → (j ≡ x) ⊎ (j ≺ x)
  unfolding next_key
  next_least [] j x s e g l = absurd (has_none x g)
  next_least (p ∷ m) j x s e g l =
      elim (cases p) [
        | inl h ↦ first (some_inj (sym (next_here k p m h) ∙ e)) (has_cons x p m g)
        | inr h ↦ next_least m j x s.1 (sym (next_there k p m h) ∙ e) (has_rest p m x h l (has_cons x p m g)) l
      ]
    where
      first : p.0 ≡ j → (x ≡ p.0) ⊎ Has x m → (j ≡ x) ⊎ (j ≺ x)
      first q (inl d) = inl (sym q ∙ sym d)
      first q (inr d) = inr (subst (λ (y : Key). y ≺ x) q (above_has p.0 x m s.0 d))

  -- where there is none, no key after k has a value
  pub next_none : (m : Map A) (x : Key) → next_key k m ≡ none → Has x m → k ≺ x → ⊥
  unfolding next_key
  next_none [] x e g l = has_none x g
  next_none (p ∷ m) x e g l =
      elim (cases p) [
        | inl h ↦ some≢none (sym (next_here k p m h) ∙ e)
        | inr h ↦ next_none m x (sym (next_there k p m h) ∙ e) (has_rest p m x h l (has_cons x p m g)) l
      ]

-- ---- HOW OFTEN A KEY IS AMONG THE KEYS
times_here : (x j : Key) (js : List Key) → x ≡ j → times x (j ∷ js) ≡ 1 + times x js
unfolding times
times_here x j js e = ap (λ (n : ℕ). n + times x js) (if_pos (key≟ x j) e 1 0)

times_there : (x j : Key) (js : List Key) → x ≢ j → times x (j ∷ js) ≡ times x js
unfolding times
times_there x j js e = ap (λ (n : ℕ). n + times x js) (if_neg (key≟ x j) e 1 0) ∙ zero-add (times x js)

-- rising keys: the one that they rise from is not among them, nor one before it
times_above : (x k : Key) (js : List Key) → (x ≡ k) ⊎ (x ≺ k) → Rise k js → times x js ≡ 0
unfolding times
times_above x k [] l r = refl
times_above x k (j ∷ js) l r =
    let h : x ≺ j = elim l [ inl e ↦ subst (λ (y : Key). y ≺ j) (sym e) r.0 | inr g ↦ ≺_trans x k j g r.0 ] in
    times_there x j js (≺_ne x j h) ∙ times_above x j js (inr h) r.1

-- AND NONE IS THERE TWICE
pub rise_once : (x k : Key) (js : List Key) → Rise k js → times x js ≤ 1
unfolding times
rise_once x k [] r = omega arith
rise_once x k (j ∷ js) r =
    elim (key≟ x j) [
      | yes e ↦ omega (arith, times_here x j js e, times_above x j js (inl e) r.1)
      | no e ↦ omega (arith, times_there x j js e, rise_once x j js r.1)
    ]

-- ---- A WALK
module _ {A : Type 0} where
  -- THE KEYS THAT IT GIVES RISE, whatever happens to the map
  pub walk_rises : {k : Key} {ms : List (Map A)} {js : List Key} → Walk k ms js → Rise k js
  walk_rises (end e) = tt
  walk_rises (step {k} {j} {m} e w) = (next_after k m j e, walk_rises w)

  -- EACH HAD A VALUE WHEN IT WAS GIVEN
  pub walk_had : {k : Key} {ms : List (Map A)} {js : List Key} → Walk k ms js → Had ms js
  walk_had (end e) = tt
  walk_had (step {k} {j} {m} e w) = (next_has k m j e, walk_had w)

  -- A KEY AFTER k THAT HAS A VALUE AT EACH OF THE CALLS IS GIVEN EXACTLY ONCE. (That is less than a value throughout: between the calls it may have had none)
  pub walk_once : {k : Key} {ms : List (Map A)} {js : List Key} → Walk k ms js → (x : Key) → k ≺ x → Each Sorted ms → Each (Has x) ms → times x js ≡ 1
  walk_once (end {k} {m} e) x l s h = absurd (next_none k m x e h.0 l)
  walk_once (step {k} {j} {m} {ms} {js} e w) x l s h =
      elim (next_least k m j x s.0 e h.0 l) [
        | inl q ↦ omega (arith, times_here x j js (sym q), times_above x j js (inl (sym q)) (walk_rises w))
        | inr q ↦ omega (arith, times_there x j js (≺_ne' j x q), walk_once w x q s.1 h.1)
      ]

  -- ---- WHERE THE MAP IS THE SAME AT EVERY CALL: all keys in their order, each once

  -- no key of the map comes after k
  abbrev Upto : Key → Map A → Type 0
  Upto k [] = Unit {0}
  Upto k (p ∷ m) = (k ≺ p.0 → ⊥) × Upto k m

  upto_later : (k j : Key) (m : Map A) → k ≺ j → Upto k m → Upto j m
  upto_later k j [] l u = tt
  upto_later k j (p ∷ m) l u = ((λ h. u.0 (≺_trans k j p.0 l h)), upto_later k j m l u.1)

  upto_snoc : (k : Key) (m : Map A) (p : Key × A) → k ≡ p.0 → Upto k m → Upto k (m ++ (p ∷ []))
  upto_snoc k [] p e u = ((λ h. ≺_ne k p.0 h e), tt)
  upto_snoc k (q ∷ m) p e u = (u.0, upto_snoc k m p e u.1)

  -- so the next key is that of what follows it
  next_past : (k : Key) (a b : Map A) → Upto k a → next_key k (a ++ b) ≡ next_key k b
  next_past k [] b u = refl
  next_past k (p ∷ a) b u = next_there k p (a ++ b) u.0 ∙ next_past k a b u.1

  -- a walk from k, where a are the pairs up to k and b those after it, gives the keys of b
  walk_rest : {k : Key} {ms : List (Map A)} {js : List Key} → Walk k ms js → (a b : Map A) → Upto k a → Above k b → Sorted b → Each (λ m. m ≡ a ++ b) ms → js ≡ keys b
  unfolding keys next_key
  walk_rest (end e) a [] u v s h = refl
  walk_rest (end {k} e) a (q ∷ b) u v s h = absurd (some≢none (sym (next_past k a (q ∷ b) u ∙ next_here k q b v.0) ∙ sym (ap (next_key k) h.0) ∙ e))
  walk_rest (step {k} e w) a [] u v s h = absurd (some≢none (sym e ∙ ap (next_key k) h.0 ∙ next_past k a [] u))
  walk_rest (step {k} {j} {m} {ms} {js} e w) a (q ∷ b) u v s h =
      let d : j ≡ q.0 = some_inj (sym e ∙ ap (next_key k) h.0 ∙ next_past k a (q ∷ b) u ∙ next_here k q b v.0) in
      let l : k ≺ j = subst (λ (y : Key). k ≺ y) (sym d) v.0 in
      let ih : js ≡ keys b =
      walk_rest w (a ++ (q ∷ [])) b (upto_snoc j a q d (upto_later k j a l u)) (subst (λ (y : Key). Above y b) (sym d) s.0) s.1
      (subst (λ (n : Map A). Each (λ m. m ≡ n) ms) (sym (append_assoc a (q ∷ []) b)) h.1) in
      λ i. d i ∷ ih i

  -- from none, which is the empty key and before every other
  pub above_empty : (m : Map A) → (Has [] m → ⊥) → Above [] m
  above_empty [] n = tt
  above_empty (p ∷ m) n = (front p.0 refl, above_empty m (λ h. n (cons_has [] p m h)))
    where
      front : (k : Key) → p.0 ≡ k → [] ≺ k
      front [] e = absurd (n (p.1, lookup_here [] p m (sym e)))
      front (x ∷ xs) e = tt

  pub walk_all : {ms : List (Map A)} {js : List Key} → Walk [] ms js → (m : Map A) → Sorted m → (Has [] m → ⊥) → Each (λ n. n ≡ m) ms → js ≡ keys m
  walk_all w m s n h = walk_rest w [] m tt (above_empty m n) s h
