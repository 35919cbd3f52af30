-- The order of keys as a loop finds it out: the first i bytes agree, and byte i decides, or an end.
-- Assumes nothing.
use mathlib.Core.Path.{◌≡◌, refl, sym, ◌∙◌, subst}
use mathlib.Core.Logic.{inl, inr}
use mathlib.Core.List.{[], ◌∷◌, ◌++◌}
use Prim.Native.Nat.{ℕ, suc, ◌≤◌, ◌<◌}
use lib.ListN.{length, get_or, take, drop, take-append-drop, drop_of_length-le}
use lib.Seq.{drop-cons, take_all, take-suc}
use Rattle.ring_log.specs.Key.{Key, ◌≺◌}

-- a common prefix does not matter
pub ≺_prefix : (p a b : Key) → a ≺ b → (p ++ a) ≺ (p ++ b)
≺_prefix [] a b h = h
≺_prefix (x ∷ p) a b h = inr (refl, ≺_prefix p a b h)

module _ (a b : Key) (i : ℕ) (e : take i a ≡ take i b) where
  ≺_rest : drop i a ≺ drop i b → a ≺ b
  ≺_rest h =
      subst (λ (x : Key). x ≺ b) (take-append-drop i a)
      (subst (λ (x : Key). take i a ++ drop i a ≺ x) (take-append-drop i b)
      (subst (λ (x : Key). take i a ++ drop i a ≺ x ++ drop i b) e (≺_prefix (take i a) (drop i a) (drop i b) h)))

  -- byte i decides
  pub ≺_at : i < length a → i < length b → get_or a i 0 < get_or b i 0 → a ≺ b
  ≺_at h k l = ≺_rest (rw (drop-cons a i 0 h, drop-cons b i 0 k) (inl l))

  -- a ends at i, and b goes on
  pub ≺_end : length a ≤ i → i < length b → a ≺ b
  ≺_end h k = ≺_rest (rw (drop_of_length-le a h, drop-cons b i 0 k) tt)

  -- both end
  pub ≡_end : length a ≤ i → length b ≤ i → a ≡ b
  ≡_end h k = sym (take_all i a h) ∙ e ∙ take_all i b k

  -- one more byte agrees
  pub take_more : i < length a → i < length b → get_or a i 0 ≡ get_or b i 0 → take (suc i) a ≡ take (suc i) b
  take_more h k l = take-suc a i 0 h ∙ rw (e, l) (sym (take-suc b i 0 k))
