-- Laws of `all`: how a loop that tests every index makes it, and what it says of each index. Assumes nothing.
use mathlib.Core.Path.{◌≡◌, refl, sym, ap, ◌∙◌}
use mathlib.Core.Bool.{Bool, true, false, ◌&&◌, true≢false}
use mathlib.Core.Logic.{⊎_elim}
use Prim.Native.Nat.{ℕ, zero, suc, ◌+◌, ◌≤◌, ◌<◌}
use native.Mathlib.Nat.{not-suc-le-zero, le_of_suc-le-suc, eq-or-lt_of_le}
use native.Mathlib.Numerals.{add-one, unary_clauses}
use native.Mathlib.Omega.{arith}
use mathlib.Core.List.{List, [], ◌∷◌}
use lib.ListN.{length}
use Rattle.std.specs.List.{list_all}
use Rattle.page.specs.Page.{byte, all}

pub and_true : (a b : Bool) → a ≡ true → b ≡ true → (a && b) ≡ true
and_true true b p q = q
and_true false b p q = p

pub and_left : (a b : Bool) → (a && b) ≡ true → a ≡ true
and_left true b p = refl
and_left false b p = p

pub and_right : (a b : Bool) → (a && b) ≡ true → b ≡ true
and_right true b p = p
and_right false b p = absurd (true≢false (sym p))

module _ (p : ℕ → Bool) where
  -- a turn of a loop, and its end
  pub all_more : (i : ℕ) (ok t : Bool) → ok ≡ all p i → t ≡ p i → (ok && t) ≡ all p (i + 1)
  unfolding all
  all_more i ok t e q = rw (e, q, add-one)

  pub all_done : (i n : ℕ) (ok : Bool) → ok ≡ all p i → i ≡ n → ok ≡ all p n
  all_done i n ok e q = e ∙ ap (all p) q

  -- what it says of each index
  pub all_at : (n i : ℕ) → i < n → all p n ≡ true → p i ≡ true
  unfolding all
  all_at zero i l h = absurd (not-suc-le-zero l)
  all_at (suc n) i l h =
      ⊎_elim (λ e. ap p e ∙ and_right (all p n) (p n) h) (λ l'. all_at n i l' (and_left (all p n) (p n) h))
      (eq-or-lt_of_le (le_of_suc-le-suc l))

  pub all_of : (n : ℕ) → ((i : ℕ) → i < n → p i ≡ true) → all p n ≡ true
  unfolding all
  all_of zero h = refl
  all_of (suc n) h = and_true (all p n) (p n) (all_of n (λ i l. h i (omega arith))) (h n (omega arith))

  -- one that fails is enough
  pub all_fails : (n i : ℕ) → i < n → p i ≡ false → all p n ≡ false
  all_fails n i l e = go (all p n) refl
    where
      go : (b : Bool) → all p n ≡ b → b ≡ false
      go true h = absurd (true≢false (sym (all_at n i l h) ∙ e))
      go false h = refl

  -- of the first m, and then of n more
  pub all_join : (m n : ℕ) → all p m ≡ true → all (λ i. p (m + i)) n ≡ true → all p (m + n) ≡ true
  unfolding all
  all_join m zero h t = simp unary_clauses h
  all_join m (suc n) h t =
      simp unary_clauses
      (and_true (all p (m + n)) (p (m + n)) (all_join m n h (and_left (all (λ i. p (m + i)) n) (p (m + n)) t)) (and_right (all (λ i. p (m + i)) n) (p (m + n)) t))

-- from the front
and_all : (b : Bool) → b ≡ (b && true)
and_all true = refl
and_all false = refl

and_assoc : (a b c : Bool) → ((a && b) && c) ≡ (a && (b && c))
and_assoc true b c = refl
and_assoc false b c = refl

all_front : (q : ℕ → Bool) (n : ℕ) → all q (suc n) ≡ (q zero && all (λ i. q (suc i)) n)
unfolding all
all_front q zero = and_all (q zero)
all_front q (suc n) = ap (λ (b : Bool). b && q (suc n)) (all_front q n) ∙ and_assoc (q zero) (all (λ i. q (suc i)) n) (q (suc n))

-- all elements of a list
pub all_list : (p : ℕ → Bool) (xs : List ℕ) → list_all p xs ≡ all (λ i. p (byte xs i)) (length xs)
unfolding all
all_list p [] = refl
all_list p (x ∷ xs) = ap (λ (b : Bool). p x && b) (all_list p xs) ∙ sym (all_front (λ i. p (byte (x ∷ xs) i)) (length xs))

-- a run that fails is enough
pub run_fails : (p : ℕ → Bool) (m n k : ℕ) → m + n ≤ k → all (λ i. p (m + i)) n ≡ false → all p k ≡ false
run_fails p m n k l e = go (all p k) refl
  where
    go : (b : Bool) → all p k ≡ b → b ≡ false
    go true h = absurd (true≢false (sym (all_of (λ i. p (m + i)) n (λ i b. all_at p k (m + i) (omega arith) h)) ∙ e))
    go false h = refl
