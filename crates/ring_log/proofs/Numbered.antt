-- Openings are numbered: after o of them the head is block o % B, and opening number o erases a block, (o + 1) % B, exactly when o + 2 is at least B.
-- So `strike` counts what happens on the chip.
-- Assumes nothing.
use mathlib.Core.Path.{◌≡◌, sym, ap, ◌∙◌}
use mathlib.Core.Logic.{◌≢◌, ◌⊎◌, inl, inr}
use mathlib.Core.Bool.{true, false}
use Prim.Native.Nat.{ℕ, suc, ◌+◌, ◌*◌, ◌/◌, ◌%◌, ◌≤◌, ◌<◌}
use native.Mathlib.Nat.{mod-lt, mod-eq_of_lt, add-mod_left, mul-add-mod_self_left, div-add-mod}
use native.Mathlib.Decide.{dec_lt}
use native.Mathlib.Omega.{arith}
use lib.Dec.{leb}
use borrow.Author.Tests.{le-leb, lt-leb, leb-true, leb-false}
use Rattle.ring_log.specs.Ring.{Chip, sealed, spare, Later, Ring}
use Rattle.ring_log.specs.Call.{Page}
use Rattle.ring_log.specs.Opening.{Fresh}
use Rattle.ring_log.proofs.Window.{block_ne}

pub record Numbered (B : ℕ) (c : Chip) (h o : ℕ) : Type 0 where
  pub block : h ≡ o % B
  pub erases : sealed c ((h + 2) % B) ≡ leb B (o + 2)

module _ (B : ℕ) (big : 4 ≤ B) where
  -- (x % B + n) % B is (x + n) % B
  pub mod_add : (x n : ℕ) → (x % B + n) % B ≡ (x + n) % B
  mod_add x n =
      sym (ap (λ (y : ℕ). y % B) (let z : x + n ≡ B * (x / B) + (x % B + n) = omega (arith, div-add-mod x B) in z) ∙ mul-add-mod_self_left B (x / B) (x % B + n))

  -- the spare of the head number o is the block that `strike` has
  pub numbered_spare : (c : Chip) (h o : ℕ) → Numbered B c h o → spare B h ≡ (o + 1) % B
  numbered_spare c h o n = ap (λ (x : ℕ). (x + 1) % B) n.block ∙ mod_add o 1

  -- a blank chip
  pub numbered_blank : (c : Chip) → ((p : ℕ) → p < 16 * B → c.full p ≡ false) → Numbered B c 0 0
  numbered_blank c f =
      record {
        block = sym (mod-eq_of_lt (let z : 0 < B = omega arith in z));
        erases =
            f (16 * ((0 + 2) % B) + 15) (omega (arith, mod-lt (0 + 2) (let z : 0 < B = omega arith in z)))
            ∙ sym (lt-leb B (0 + 2) (let z : 0 + 2 < B = omega arith in z));
      }

  -- a change that leaves the seals of all blocks but the spare as they are: an append, an erase, a copy
  pub numbered_kept : (c c' : Chip) (h o : ℕ) → h < B → ((b : ℕ) → b ≢ spare B h → sealed c' b ≡ sealed c b) → Numbered B c h o → Numbered B c' h o
  numbered_kept c c' h o l f n =
      record { block = n.block; erases = f ((h + 2) % B) (λ e. block_ne B (h + 1) (h + 2) (omega arith) (omega arith) (sym e)) ∙ n.erases }

  -- the seal
  pub numbered_next : (c c' : Chip) (h o : ℕ) → Ring B c h → Later B c h ⊎ Fresh B c h → Page (16 * h + 15) c c' → sealed c' h ≡ true → Numbered B c h o → Numbered B c' (spare B h) (suc o)
  numbered_next c c' h o r k w on n =
      record {
        block = numbered_spare c h o n ∙ ap (λ (x : ℕ). x % B) (let z : o + 1 ≡ suc o = omega arith in z);
        erases = ap (sealed c') third ∙ w.full (16 * ((h + 3) % B) + 15) (λ e. far (omega arith)) ∙ go k (dec_lt (o + 3) B);
      }
    where
      third : (spare B h + 2) % B ≡ (h + 3) % B
      third = mod_add (h + 1) 2 ∙ ap (λ (x : ℕ). x % B) (let z : h + 1 + 2 ≡ h + 3 = omega arith in z)

      far : (h + 3) % B ≢ h
      far e = block_ne B h (h + 3) (omega arith) (omega arith) (mod-eq_of_lt r.inside ∙ sym e)

      near : (h + 3) % B ≢ spare B h
      near e = block_ne B (h + 1) (h + 3) (omega arith) (omega arith) (sym e)

      -- the oldest block is sealed where the ring is beyond its first round
      old : Later B c h → leb B (o + 2) ≡ true
      old f =
          sym n.erases
          ∙ f ((h + 2) % B) (mod-lt (h + 2) (omega arith)) (λ e. block_ne B h (h + 2) (omega arith) (omega arith) (mod-eq_of_lt r.inside ∙ sym e))
          (λ e. block_ne B (h + 1) (h + 2) (omega arith) (omega arith) (sym e))

      young : Fresh B c h → leb B (o + 2) ≡ false
      young (l, f) =
          sym n.erases
          ∙ ap (sealed c) (mod-eq_of_lt l)
          ∙ f.above (16 * (h + 2) + 15) (omega arith) (omega arith)

      same : Fresh B c h → o ≡ h
      same f = sym (n.block ∙ mod-eq_of_lt (let z : o < B = omega (arith, leb-false B (o + 2) (young f)) in z))

      go : Later B c h ⊎ Fresh B c h → Dec (o + 3 < B) → sealed c ((h + 3) % B) ≡ leb B (suc o + 2)
      go (inl f) d =
          f ((h + 3) % B) (mod-lt (h + 3) (omega arith)) far near
          ∙ sym (le-leb B (suc o + 2) (let z : B ≤ suc o + 2 = omega (arith, leb-true B (o + 2) (old f)) in z))
      go (inr (l, f)) (yes d) =
          let e : o ≡ h = same (l, f) in
          ap (sealed c) (mod-eq_of_lt (let z : h + 3 < B = omega arith in z))
          ∙ f.above (16 * (h + 3) + 15) (omega arith) (omega arith)
          ∙ sym (lt-leb B (suc o + 2) (let z : suc o + 2 < B = omega arith in z))
      go (inr (l, f)) (no d) =
          let e : o ≡ h = same (l, f) in
          ap (sealed c)
          (ap (λ (x : ℕ). x % B) (let z : h + 3 ≡ B + 0 = omega arith in z) ∙ add-mod_left B 0 ∙ mod-eq_of_lt (let z : 0 < B = omega arith in z))
          ∙ f.below 0 (omega arith)
          ∙ sym (le-leb B (suc o + 2) (let z : B ≤ suc o + 2 = omega arith in z))
