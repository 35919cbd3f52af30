-- Whether the entries are all of other blocks: of a run as of a list, and run after run. Assumes nothing.
use mathlib.Core.Path.{◌≡◌, refl, sym, ap, ◌∙◌}
use mathlib.Core.Bool.{Bool, true, false, ◌&&◌}
use mathlib.Core.List.{List, [], ◌∷◌, ◌++◌}
use Prim.Native.Nat.{ℕ, zero, suc}
use native.Mathlib.Omega.{arith}
use lib.ListN.{length, get_or}
use Rattle.std.specs.List.{list_all}
use Rattle.std.proofs.lemmas.List.Folds.{list_all-append}
use Rattle.page.specs.Page.{all}
use Rattle.clean.specs.Ends.{elsewhere, unlisted}

and_assoc : (a b c : Bool) → (a && b && c) ≡ (a && (b && c))
and_assoc true b c = refl
and_assoc false b c = refl

-- the first of n + 1 tests comes first
all_front : (p : ℕ → Bool) (n : ℕ) → all p (suc n) ≡ (p 0 && all (λ i. p (suc i)) n)
unfolding all
all_front p zero = go (p 0)
  where
    go : (b : Bool) → (true && b) ≡ (b && true)
    go true = refl
    go false = refl
all_front p (suc n) = ap (λ (b : Bool). b && p (suc n)) (all_front p n) ∙ and_assoc (p 0) (all (λ i. p (suc i)) n) (p (suc n))

all_list : (p : ℕ → Bool) (xs : List ℕ) → all (λ i. p (get_or xs i 0)) (length xs) ≡ list_all p xs
unfolding all
all_list p [] = refl
all_list p (x ∷ xs) = all_front (λ i. p (get_or (x ∷ xs) i 0)) (length xs) ∙ ap (λ (b : Bool). p x && b) (all_list p xs)

module _ (x : ℕ) where
  pub unlisted_list : (xs : List ℕ) → unlisted x xs (length xs) ≡ list_all (elsewhere x) xs
  unfolding unlisted
  unlisted_list xs = all_list (elsewhere x) xs

  -- what is left of the entries ix is `left`: a run of it, and then the rest
  module _ (ix left : List ℕ) (e : list_all (elsewhere x) ix ≡ list_all (elsewhere x) left) where
    module _ (run rest : List ℕ) (cut : left ≡ run ++ rest) where
      joined : list_all (elsewhere x) ix ≡ (unlisted x run (length run) && list_all (elsewhere x) rest)
      joined =
          e ∙ ap (list_all (elsewhere x)) cut ∙ list_all-append (elsewhere x) run rest
          ∙ ap (λ (b : Bool). b && list_all (elsewhere x) rest) (sym (unlisted_list run))

      pub run_passed : true ≡ unlisted x run (length run) → list_all (elsewhere x) ix ≡ list_all (elsewhere x) rest
      run_passed u = joined ∙ ap (λ (b : Bool). b && list_all (elsewhere x) rest) (sym u)

      pub run_failed : false ≡ unlisted x run (length run) → false ≡ unlisted x ix (length ix)
      run_failed u = sym (unlisted_list ix ∙ joined ∙ ap (λ (b : Bool). b && list_all (elsewhere x) rest) (sym u))

    pub all_passed : length left ≡ 0 → true ≡ unlisted x ix (length ix)
    all_passed z = sym (unlisted_list ix ∙ e ∙ go left z)
      where
        go : (ys : List ℕ) → length ys ≡ 0 → list_all (elsewhere x) ys ≡ true
        go [] z = refl
        go (y ∷ ys) z = absurd (omega arith)
