-- A loop that makes the list t out of the list d from the front, one store a turn: after i turns it is `grown i t d`. Assumes nothing.
use mathlib.Core.Path.{◌≡◌, refl, sym, ap, ◌∙◌}
use mathlib.Core.List.{List, [], ◌∷◌, ◌++◌, append-nil}
use Prim.Native.Nat.{ℕ, zero, suc, ◌+◌, ◌≤◌, ◌<◌}
use native.Mathlib.Nat.{not-suc-le-zero, le_of_suc-le-suc, le_of_eq}
use native.Mathlib.Numerals.{add-one}
use native.Mathlib.Omega.{arith}
use lib.ListN.{length, get_or, set, take, drop, drop_of_length-le, take-append-drop, get_or-append}
use lib.Seq.{take_all, get_or-take, length-take-le, get_or-append-add, get_or-drop}

-- the first i elements of t, and then d's from index i on
unfoldable pub grown : ℕ → List ℕ → List ℕ → List ℕ
grown i t d = take i t ++ drop i d

step : (i : ℕ) (t d : List ℕ) → i < length t → i < length d → set (grown i t d) i (get_or t i 0) ≡ grown (suc i) t d
unfolding grown
step i [] d p q = absurd (not-suc-le-zero p)
step i (x ∷ t) [] p q = absurd (not-suc-le-zero q)
step zero (x ∷ t) (y ∷ d) p q = refl
step (suc i) (x ∷ t) (y ∷ d) p q = ap (λ (l : List ℕ). x ∷ l) (step i t d (le_of_suc-le-suc p) (le_of_suc-le-suc q))

-- it begins: the two lists agree before i
pub grown_from : (i : ℕ) (t d : List ℕ) → take i t ≡ take i d → d ≡ grown i t d
unfolding grown
grown_from i t d e = sym (ap (λ (l : List ℕ). l ++ drop i d) e ∙ take-append-drop i d)

-- a turn
pub grown_more : (i : ℕ) (t d l : List ℕ) (v : ℕ) → l ≡ grown i t d → v ≡ get_or t i 0 → i < length t → i < length d
    → set l i v ≡ grown (i + 1) t d
grown_more i t d l v e w p q = rw (e, w, add-one) (step i t d p q)

-- it ends
pub grown_all : (i : ℕ) (t d l : List ℕ) → l ≡ grown i t d → length t ≡ i → length d ≡ i → l ≡ t
unfolding grown
grown_all i t d l e p q =
    e ∙ ap (λ (r : List ℕ). r ++ drop i d) (take_all i t (le_of_eq p)) ∙ ap (λ (r : List ℕ). t ++ r) (drop_of_length-le d (le_of_eq q)) ∙ append-nil t

-- before i stands what is new, and from i on what was there
module _ (i : ℕ) (t d l : List ℕ) (e : l ≡ grown i t d) (h : i ≤ length t) where
  pub grown_before : (k : ℕ) → k < i → get_or l k 0 ≡ get_or t k 0
  unfolding grown
  grown_before k b = ap (λ (x : List ℕ). get_or x k 0) e ∙ get_or-append (take i t) (drop i d) 0 k (omega (arith, length-take-le i t h)) ∙ get_or-take i t k 0 b

  pub grown_ahead : get_or l i 0 ≡ get_or d i 0
  unfolding grown
  grown_ahead =
      let z : i + 0 ≡ i = omega arith in
      let n : length (take i t) + 0 ≡ i = omega (arith, length-take-le i t h) in
      ap (λ (x : List ℕ). get_or x i 0) e ∙ ap (λ (j : ℕ). get_or (take i t ++ drop i d) j 0) (sym n) ∙ get_or-append-add (take i t) (drop i d) 0 0
      ∙ get_or-drop i d 0 0 ∙ ap (λ (j : ℕ). get_or d j 0) z
