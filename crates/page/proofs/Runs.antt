-- A page is blank when its runs of 64 bytes are. Assumes nothing.
use mathlib.Core.Path.{◌≡◌, refl, sym, ap, ◌∙◌}
use mathlib.Core.Bool.{Bool, true, false, ◌&&◌}
use mathlib.Core.List.{List}
use Prim.Native.Nat.{ℕ, ◌+◌, ◌≤◌}
use lib.Dec.{eqb}
use Rattle.page.specs.Page.{byte, all, blank, blank_run}
use Rattle.page.proofs.All.{all_more, all_join, run_fails}

-- the first n bytes of a page read 0xFF
unfoldable pub blank_to : List ℕ → ℕ → Bool
blank_to pg n = all (λ i. eqb (byte pg i) 255) n

module _ (pg : List ℕ) where
  pub blank_none : blank_to pg 0 ≡ true
  unfolding blank_to all
  blank_none = refl

  -- within a run, a byte more
  pub run_turn : (m i x : ℕ) (ok : Bool) → ok ≡ all (λ j. eqb (byte pg (m + j)) 255) i → x ≡ byte pg (m + i) → (ok && eqb x 255) ≡ all (λ j. eqb (byte pg (m + j)) 255) (i + 1)
  run_turn m i x ok e q = all_more _ i ok _ e (ap (λ (y : ℕ). eqb y 255) q)

  -- a run more; m is where it begins, however the code says that
  pub blank_more : (n m k : ℕ) → m ≡ n → k ≡ n + 64 → blank_to pg n ≡ true → blank_run pg m ≡ true → blank_to pg k ≡ true
  unfolding blank_to blank_run
  blank_more n m k e q h t =
      ap (blank_to pg) q ∙ all_join (λ i. eqb (byte pg i) 255) n 64 h (ap (λ (j : ℕ). blank_run pg j) (sym e) ∙ t)

  -- a run that has another byte is enough
  pub blank_fails : (m : ℕ) → m + 64 ≤ 256 → blank_run pg m ≡ false → false ≡ blank pg
  unfolding blank blank_run
  blank_fails m l e = sym (run_fails (λ i. eqb (byte pg i) 255) m 64 256 l e)

  pub blank_all : (n : ℕ) → n ≡ 256 → blank_to pg n ≡ true → true ≡ blank pg
  unfolding blank blank_to
  blank_all n e h = sym (ap (blank_to pg) (sym e) ∙ h)
