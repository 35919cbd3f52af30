-- The lowest number of which a test does not hold. Assumes nothing.
use mathlib.Core.Path.{◌≡◌, refl, sym, ap, ◌∙◌}
use mathlib.Core.Bool.{Bool, true, false, cond, ◌&&◌}
use mathlib.Core.Logic.{◌≢◌}
use mathlib.Core.List.{List}
use Prim.Native.Nat.{ℕ, zero, suc, ◌+◌, ◌<◌}
use native.Mathlib.Decide.{ℕ_discrete}
use native.Mathlib.Omega.{arith}
use borrow.Author.Tests.{ne_eqb}
use Rattle.std.specs.Prelude.{Option, Some, None, unwrap_or, IfSome}
use Rattle.page.specs.Page.{byte, all, flips, blank, sound}
use Rattle.page.specs.Look.{agree, lowest, spoilt_at, look_of, Apart}
use Rattle.page.specs.declared.Look.TheVariants.{Blank, Sound, Spoilt}
use Rattle.page.proofs.All.{and_left, and_right, all_fails}

-- byte k and its copy at n, however the code says where that is
pub agree_at : (pg : List ℕ) (k n : ℕ) (r : Bool) → r ≡ flips (byte pg k) (byte pg n) → n ≡ 128 + k → r ≡ agree pg k
agree_at pg k n r e q = e ∙ ap (λ (j : ℕ). flips (byte pg k) (byte pg j)) q

module _ (p : ℕ → Bool) where
  -- it holds below i, and not of i
  pub lowest_is : (n i : ℕ) → i < n → all p i ≡ true → p i ≡ false → lowest p n ≡ i
  unfolding lowest
  lowest_is zero i l a e = absurd (omega arith)
  lowest_is (suc n) i l a e = go (ℕ_discrete i n) (λ m. lowest_is n i m a e)
    where
      go : Dec (i ≡ n) → (i < n → lowest p n ≡ i) → cond (all p n) (cond (p n) (suc n) n) (lowest p n) ≡ i
      go (yes d) f = rw (sym (ap (all p) d) ∙ a, sym (ap p d) ∙ e) (sym d)
      go (no d) f = rw (all_fails p n i (omega arith) e) (f (omega arith))

  -- it holds of all
  last_of : (n : ℕ) → all p (suc n) ≡ true → (all p n && p n) ≡ true
  unfolding all
  last_of n h = h

  pub lowest_all : (n : ℕ) → all p n ≡ true → lowest p n ≡ n
  unfolding lowest
  lowest_all zero a = refl
  lowest_all (suc n) a = rw (and_left (all p n) (p n) (last_of n a), and_right (all p n) (p n) (last_of n a))

module _ (pg : List ℕ) where
  -- which byte is told
  pub spoilt_two : byte pg 0 ≡ 2 → 254 ≡ spoilt_at pg
  unfolding spoilt_at
  spoilt_two e = rw e

  pub spoilt_one : byte pg 0 ≢ 2 → (o : Option ℕ) → Apart pg (unwrap_or o 128) → IfSome o (λ k. k < 128) → unwrap_or o 0 ≡ spoilt_at pg
  unfolding spoilt_at
  spoilt_one e None a l = rw (ne_eqb (byte pg 0) 2 e, lowest_all (agree pg) 128 a.below)
  spoilt_one e (Some r) a l = rw (ne_eqb (byte pg 0) 2 e, lowest_is (agree pg) 128 r l a.below (a.here l), ne_eqb r 128 (λ q. omega arith))

  pub look_blank : blank pg ≡ true → Blank ≡ look_of pg
  unfolding look_of
  look_blank e = rw e

  pub look_sound : blank pg ≡ false → sound pg ≡ true → Sound ≡ look_of pg
  unfolding look_of
  look_sound e d = rw (e, d)

  pub look_spoilt : blank pg ≡ false → sound pg ≡ false → (i : ℕ) → i ≡ spoilt_at pg → Spoilt i ≡ look_of pg
  unfolding look_of
  look_spoilt e d i f = rw (e, d, f)
