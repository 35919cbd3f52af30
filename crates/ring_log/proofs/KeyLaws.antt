-- The order of keys: irreflexive, transitive, asymmetric; what a decision by `tri` comes to where the answer is known.
-- Assumes nothing.
use mathlib.Core.Path.{◌≡◌, refl, sym, subst}
use mathlib.Core.Logic.{inl, inr, ◌≢◌}
use mathlib.Core.List.{[], ◌∷◌}
use native.Mathlib.Omega.{arith}
use Rattle.ring_log.specs.Key.{Key, ◌≺◌, Tri, tri<, tri≡, tri>, by_tri}

-- no key comes before itself
pub ≺_irrefl : (a : Key) → a ≺ a → ⊥
≺_irrefl [] h = h
≺_irrefl (x ∷ xs) (inl h) = omega arith
≺_irrefl (x ∷ xs) (inr h) = ≺_irrefl xs h.1

-- the order is transitive
pub ≺_trans : (a b c : Key) → a ≺ b → b ≺ c → a ≺ c
≺_trans [] [] c h k = absurd h
≺_trans [] (y ∷ ys) [] h k = k
≺_trans [] (y ∷ ys) (z ∷ zs) h k = tt
≺_trans (x ∷ xs) [] c h k = absurd h
≺_trans (x ∷ xs) (y ∷ ys) [] h k = k
≺_trans (x ∷ xs) (y ∷ ys) (z ∷ zs) (inl h) (inl k) = inl (omega arith)
≺_trans (x ∷ xs) (y ∷ ys) (z ∷ zs) (inl h) (inr k) = inl (omega arith)
≺_trans (x ∷ xs) (y ∷ ys) (z ∷ zs) (inr h) (inl k) = inl (omega arith)
≺_trans (x ∷ xs) (y ∷ ys) (z ∷ zs) (inr h) (inr k) = inr (omega arith, ≺_trans xs ys zs h.1 k.1)

-- of two keys only one comes before the other
pub ≺_asym : (a b : Key) → a ≺ b → b ≺ a → ⊥
≺_asym a b h k = ≺_irrefl a (≺_trans a b a h k)

-- a key that comes before another is another
pub ≺_ne : (a b : Key) → a ≺ b → a ≢ b
≺_ne a b h e = ≺_irrefl b (subst (λ (x : Key). x ≺ b) e h)

-- and the other way round
pub ≺_ne' : (a b : Key) → a ≺ b → b ≢ a
≺_ne' a b h e = ≺_ne a b h (sym e)

module _ {A : Type 0} (a b : Key) (t : Tri a b) (x y z : A) where
  -- the choice, where a comes before b
  pub by_tri-< : a ≺ b → by_tri t x y z ≡ x
  by_tri-< h = elim t as (λ k. by_tri k x y z ≡ x) [ tri< k ↦ refl | tri≡ k ↦ absurd (≺_ne a b h k) | tri> k ↦ absurd (≺_asym a b h k) ]

  -- where they are the same
  pub by_tri-≡ : a ≡ b → by_tri t x y z ≡ y
  by_tri-≡ h = elim t as (λ k. by_tri k x y z ≡ y) [ tri< k ↦ absurd (≺_ne a b k h) | tri≡ k ↦ refl | tri> k ↦ absurd (≺_ne b a k (sym h)) ]

  -- where b comes before a
  pub by_tri-> : b ≺ a → by_tri t x y z ≡ z
  by_tri-> h = elim t as (λ k. by_tri k x y z ≡ z) [ tri< k ↦ absurd (≺_asym a b k h) | tri≡ k ↦ absurd (≺_ne b a h (sym k)) | tri> k ↦ refl ]
