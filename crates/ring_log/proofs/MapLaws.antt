-- What is known of maps: `alter` keeps them sorted; what `lookup` answers after it; equal lookups make equal lists.
-- Assumes nothing.
use mathlib.Core.Path.{◌≡◌, refl, sym, ◌∙◌, subst}
use mathlib.Core.Logic.{◌≢◌, if_pos, if_neg}
use mathlib.Core.List.{[], ◌∷◌}
use mathlib.Core.Option.{Option, none, some}
use Prim.Native.Nat.{ℕ}
pub use Rattle.record.proofs.Reading.{some≢none, some_inj}
use Rattle.ring_log.specs.Key.{Key, ◌≺◌, Tri, tri<, tri≡, tri>, tri, key≟}
use Rattle.ring_log.specs.Map.{Map, lookup, put, alter, Above, Sorted}
use Rattle.ring_log.proofs.KeyLaws.{≺_trans, ≺_ne, ≺_ne', by_tri-<, by_tri-≡, by_tri->}

module _ {A : Type 0} where
  -- each key of the map comes before k; each value is a P
  abbrev pub Below : Key → Map A → Type 0
  Below k [] = Unit {0}
  Below k (p ∷ m) = (p.0 ≺ k) × Below k m

  -- each value of the map is a P
  abbrev pub All : (A → Type 0) → Map A → Type 0
  All P [] = Unit {0}
  All P (p ∷ m) = P p.1 × All P m

  -- f of a value, or 0 where there is none
  abbrev pub or_zero : (A → ℕ) → Option A → ℕ
  or_zero f none = 0
  or_zero f (some a) = f a

  -- ---- lookup, one pair at a time

  -- the first pair is the key's
  pub lookup_here : (k : Key) (p : Key × A) (m : Map A) → k ≡ p.0 → lookup k (p ∷ m) ≡ some p.1
  unfolding lookup
  lookup_here k p m e = if_pos (key≟ k p.0) e _ _

  -- it is not
  pub lookup_there : (k : Key) (p : Key × A) (m : Map A) → k ≢ p.0 → lookup k (p ∷ m) ≡ lookup k m
  unfolding lookup
  lookup_there k p m e = if_neg (key≟ k p.0) e _ _

  -- a key before all of them has no value
  pub lookup_above : (k : Key) (m : Map A) → Above k m → lookup k m ≡ none
  unfolding lookup
  lookup_above k [] h = refl
  lookup_above k (p ∷ m) h = lookup_there k p m (≺_ne k p.0 h.0) ∙ lookup_above k m h.1

  -- ---- alter, one pair at a time

  -- k comes before the first key
  pub alter-< : (k : Key) (o : Option A) (p : Key × A) (m : Map A) → k ≺ p.0 → alter k o (p ∷ m) ≡ put k o (p ∷ m)
  unfolding alter
  alter-< k o p m h = by_tri-< k p.0 (tri k p.0) _ _ _ h

  -- k is the first key
  pub alter-≡ : (k : Key) (o : Option A) (p : Key × A) (m : Map A) → k ≡ p.0 → alter k o (p ∷ m) ≡ put k o m
  unfolding alter
  alter-≡ k o p m h = by_tri-≡ k p.0 (tri k p.0) _ _ _ h

  -- k comes after it
  pub alter-> : (k : Key) (o : Option A) (p : Key × A) (m : Map A) → p.0 ≺ k → alter k o (p ∷ m) ≡ p ∷ alter k o m
  unfolding alter
  alter-> k o p m h = by_tri-> k p.0 (tri k p.0) _ _ _ h

  -- a statement of the altered map, by the three cases
  pub alter_cases : (P : Map A → Type 0) (k : Key) (o : Option A) (p : Key × A) (m : Map A)
      → (k ≺ p.0 → P (put k o (p ∷ m))) → (k ≡ p.0 → P (put k o m)) → (p.0 ≺ k → P (p ∷ alter k o m)) → P (alter k o (p ∷ m))
  alter_cases P k o p m f g h =
      elim (tri k p.0) [
        | tri< e ↦ subst P (sym (alter-< k o p m e)) (f e)
        | tri≡ e ↦ subst P (sym (alter-≡ k o p m e)) (g e)
        | tri> e ↦ subst P (sym (alter-> k o p m e)) (h e)
      ]

  -- ---- sortedness

  -- what comes before k comes before all after k
  pub above_trans : (j k : Key) (m : Map A) → j ≺ k → Above k m → Above j m
  above_trans j k [] h a = tt
  above_trans j k (p ∷ m) h a = (≺_trans j k p.0 h a.0, above_trans j k m h a.1)

  -- a key before k and the map comes before the map with k
  pub above_put : (j k : Key) (o : Option A) (m : Map A) → j ≺ k → Above j m → Above j (put k o m)
  above_put j k none m h a = a
  above_put j k (some v) m h a = (h, a)

  -- and before the altered map
  pub above_alter : (j k : Key) (o : Option A) (m : Map A) → j ≺ k → Above j m → Above j (alter k o m)
  unfolding alter
  above_alter j k o [] h a = above_put j k o [] h a
  above_alter j k o (p ∷ m) h a =
      alter_cases (Above j) k o p m (λ e. above_put j k o (p ∷ m) h a) (λ e. above_put j k o m h a.1) (λ e. (a.0, above_alter j k o m h a.1))

  -- the map with a key in front that comes before it is sorted
  pub sorted_put : (k : Key) (o : Option A) (m : Map A) → Above k m → Sorted m → Sorted (put k o m)
  sorted_put k none m a s = s
  sorted_put k (some v) m a s = (a, s)

  -- ALTER KEEPS A MAP SORTED
  pub sorted_alter : (k : Key) (o : Option A) (m : Map A) → Sorted m → Sorted (alter k o m)
  unfolding alter
  sorted_alter k o [] s = sorted_put k o [] tt tt
  sorted_alter k o (p ∷ m) s =
      alter_cases Sorted k o p m
      (λ e. sorted_put k o (p ∷ m) (e, above_trans k p.0 m e s.0) s)
      (λ e. sorted_put k o m (rw e s.0) s.1)
      (λ e. (above_alter p.0 k o m e s.0, sorted_alter k o m s.1))

  -- ---- lookup after alter

  -- in front of the map: the key itself
  pub lookup_put_same : (k : Key) (o : Option A) (m : Map A) → Above k m → lookup k (put k o m) ≡ o
  lookup_put_same k none m a = lookup_above k m a
  lookup_put_same k (some v) m a = lookup_here k (k, v) m refl

  -- another key
  pub lookup_put_other : (j k : Key) (o : Option A) (m : Map A) → j ≢ k → lookup j (put k o m) ≡ lookup j m
  lookup_put_other j k none m e = refl
  lookup_put_other j k (some v) m e = lookup_there j (k, v) m e

  -- A KEY HAS WHAT IT WAS GIVEN
  pub lookup_same : (k : Key) (o : Option A) (m : Map A) → Sorted m → lookup k (alter k o m) ≡ o
  unfolding alter
  lookup_same k o [] s = lookup_put_same k o [] tt
  lookup_same k o (p ∷ m) s =
      alter_cases (λ n. lookup k n ≡ o) k o p m
      (λ e. lookup_put_same k o (p ∷ m) (e, above_trans k p.0 m e s.0))
      (λ e. lookup_put_same k o m (rw e s.0))
      (λ e. lookup_there k p (alter k o m) (≺_ne' p.0 k e) ∙ lookup_same k o m s.1)

  -- EVERY OTHER KEY HAS WHAT IT HAD
  pub lookup_other : (j k : Key) (o : Option A) (m : Map A) → j ≢ k → lookup j (alter k o m) ≡ lookup j m
  unfolding alter
  lookup_other j k o [] n = lookup_put_other j k o [] n
  lookup_other j k o (p ∷ m) n =
      alter_cases (λ l. lookup j l ≡ lookup j (p ∷ m)) k o p m
      (λ e. lookup_put_other j k o (p ∷ m) n)
      (λ e. lookup_put_other j k o m n ∙ sym (lookup_there j p m (λ d. n (d ∙ sym e))))
      (λ e. go (key≟ j p.0) (lookup_other j k o m n))
    where
      go : Dec (j ≡ p.0) → lookup j (alter k o m) ≡ lookup j m → lookup j (p ∷ alter k o m) ≡ lookup j (p ∷ m)
      go (yes d) ih = lookup_here j p (alter k o m) d ∙ sym (lookup_here j p m d)
      go (no d) ih = lookup_there j p (alter k o m) d ∙ ih ∙ sym (lookup_there j p m d)

  -- ---- equal lookups, equal maps

  -- EQUAL LOOKUPS MEAN EQUAL MAPS
  pub ext : (m n : Map A) → Sorted m → Sorted n → ((k : Key) → lookup k m ≡ lookup k n) → m ≡ n
  unfolding lookup
  ext [] [] s t h = refl
  ext [] (q ∷ n) s t h = absurd (some≢none (sym (lookup_here q.0 q n refl) ∙ sym (h q.0)))
  ext (p ∷ m) [] s t h = absurd (some≢none (sym (lookup_here p.0 p m refl) ∙ h p.0))
  ext (p ∷ m) (q ∷ n) s t h = go (tri p.0 q.0) (ext m n s.1 t.1)
    where
      tails : p.0 ≡ q.0 → (k : Key) → Dec (k ≡ p.0) → lookup k m ≡ lookup k n
      tails e k (yes d) = rw d (lookup_above p.0 m s.0 ∙ rw e (sym (lookup_above q.0 n t.0)))
      tails e k (no d) = sym (lookup_there k p m d) ∙ h k ∙ lookup_there k q n (λ c. d (c ∙ sym e))

      go : Tri p.0 q.0 → (((k : Key) → lookup k m ≡ lookup k n) → m ≡ n) → p ∷ m ≡ q ∷ n
      go (tri< e) ih =
          absurd
          (some≢none
          (sym (lookup_here p.0 p m refl) ∙ h p.0 ∙ lookup_above p.0 (q ∷ n) (e, above_trans p.0 q.0 n e t.0)))
      go (tri> e) ih =
          absurd
          (some≢none
          (sym (lookup_here q.0 q n refl) ∙ sym (h q.0) ∙ lookup_above q.0 (p ∷ m) (e, above_trans q.0 p.0 m e s.0)))
      go (tri≡ e) ih =
          let v : p.1 ≡ q.1 = some_inj (sym (lookup_here p.0 p m refl) ∙ h p.0 ∙ lookup_here p.0 q n e) in
          let r : m ≡ n = ih (λ k. tails e k (key≟ k p.0)) in
          λ i. (e i, v i) ∷ r i
