-- Keys and their order (document 01, section 3): two keys are the same if they have the same length and bytes. Nothing here mentions code. Assumes nothing.
use Rattle.std.specs.Prelude.{◌≡◌, refl, ◌⊎◌, ℕ, ◌<◌}
use Rattle.std.proofs.Common.{sym, inl, inr, arith}
use mathlib.Core.List.{List, [], ◌∷◌, cons≢nil, head-eq_of_cons-eq, tail-eq_of_cons-eq}
use Rattle.std.proofs.Math.Decide.{dec_lt, ℕ_discrete}

-- a key is a list of bytes
abbrev pub Key : Type 0
Key = List ℕ

-- the order of keys: byte by byte, a shorter key before its longer continuations
infix 40 ◌≺◌
abbrev pub ◌≺◌ : Key → Key → Type 0
[] ≺ [] = ⊥
[] ≺ (y ∷ ys) = Unit {0}
(x ∷ xs) ≺ [] = ⊥
(x ∷ xs) ≺ (y ∷ ys) = (x < y) ⊎ ((x ≡ y) × (xs ≺ ys))

-- how two keys stand to one another, and the choice of one of three things by it
pub data Tri (a b : Key) : Type 0 where
  tri< : a ≺ b → Tri a b
  tri≡ : a ≡ b → Tri a b
  tri> : b ≺ a → Tri a b

abbrev pub by_tri : {A : Type 0} {a b : Key} → Tri a b → A → A → A → A
by_tri (tri< h) x y z = x
by_tri (tri≡ h) x y z = y
by_tri (tri> h) x y z = z

-- whether two keys are the same is decided
both : (x y : ℕ) (xs ys : Key) → Dec (x ≡ y) → Dec (xs ≡ ys) → Dec (◌≡◌ {A = Key} (x ∷ xs) (y ∷ ys))
both x y xs ys (yes p) (yes q) = yes (λ i. p i ∷ q i)
both x y xs ys (yes p) (no q) = no (λ e. q (tail-eq_of_cons-eq e))
both x y xs ys (no p) d = no (λ e. p (head-eq_of_cons-eq e))

unfoldable pub key≟ : (a b : Key) → Dec (a ≡ b)
unfolding both ℕ_discrete
key≟ [] [] = yes refl
key≟ [] (y ∷ ys) = no (λ e. cons≢nil (sym e))
key≟ (x ∷ xs) [] = no (λ e. cons≢nil e)
key≟ (x ∷ xs) (y ∷ ys) = both x y xs ys (ℕ_discrete x y) (key≟ xs ys)

-- and so is their order
tri_cons : (x y : ℕ) (xs ys : Key) → Dec (x < y) → Dec (y < x) → Tri xs ys → Tri (x ∷ xs) (y ∷ ys)
tri_cons x y xs ys (yes h) d t = tri< (inl h)
tri_cons x y xs ys (no g) (yes h) t = tri> (inl h)
tri_cons x y xs ys (no g) (no h) (tri< t) = tri< (inr (omega arith, t))
tri_cons x y xs ys (no g) (no h) (tri> t) = tri> (inr (omega arith, t))
tri_cons x y xs ys (no g) (no h) (tri≡ t) = tri≡ (λ i. let e : x ≡ y = omega arith in e i ∷ t i)

unfoldable pub tri : (a b : Key) → Tri a b
unfolding tri_cons dec_lt
tri [] [] = tri≡ refl
tri [] (y ∷ ys) = tri< tt
tri (x ∷ xs) [] = tri> tt
tri (x ∷ xs) (y ∷ ys) = tri_cons x y xs ys (dec_lt x y) (dec_lt y x) (tri xs ys)
