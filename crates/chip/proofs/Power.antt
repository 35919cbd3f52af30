-- What the code of `erase` and `write` leaves, by the number of the fault script. Assumes nothing.
use mathlib.Core.Path.{◌≡◌, refl, sym, ap, ◌∙◌}
use mathlib.Core.Bool.{true}
use mathlib.Core.List.{List, [], ◌∷◌}
use Prim.Native.Nat.{ℕ, zero, suc, ◌+◌, ◌-◌, ◌*◌, ◌≤◌, ◌<◌}
use native.Mathlib.Nat.{not-suc-le-zero, le_of_suc-le-suc}
use native.Mathlib.Omega.{arith}
use lib.ListN.{length, take, drop, replicate, length-drop, length-replicate}
use lib.Seq.{length-take-le}
use lib.Bits.{bit_or, bit_and}
use borrow.Rule.Slice.PartMut.{put_mid, mid_of}
use Rattle.page.specs.Page.{byte, Bytes, each, ors, ands}
use Rattle.page.proofs.Cut.{length_each, each_second, ands_blank}
use Rattle.chip.specs.Chip.{Power, goes, stays, power, page_at, block_at, blank_at, news, splice, erased, written}
use Rattle.chip.proofs.Splice.{part_back, part_out}

pub power_goes : (f : ℕ) → f ≡ 1 → power f ≡ goes
unfolding power
power_goes f e = ap power e

pub power_stays : (f : ℕ) → 1 < f → power f ≡ stays
unfolding power
power_stays zero h = absurd (not-suc-le-zero h)
power_stays (suc zero) h = absurd (not-suc-le-zero (le_of_suc-le-suc h))
power_stays (suc (suc f)) h = refl

pub length_part : (a k : ℕ) (c : List ℕ) → a + k ≤ length c → length (take k (drop a c)) ≡ k
length_part a k c h = length-take-le k (drop a c) (simp length-drop (omega arith))

-- ---- the block, lent as a part, became xs
module _ (f b : ℕ) (noise c xs : List ℕ) (h : 4096 * b + 4096 ≤ length c) where
  -- all ones
  pub erase_whole : xs ≡ replicate (length (mid_of (4096 * b) (4096 * b + 4096 - 4096 * b) c)) 255 → 1 < f
      → put_mid (4096 * b) (4096 * b + 4096 - 4096 * b) c xs ≡ erased (power f) noise b c
  unfolding erased
  erase_whole x e =
      let n : length (mid_of (4096 * b) (4096 * b + 4096 - 4096 * b) c) ≡ 4096 = ap length (part_out (4096 * b) 4096 c) ∙ length_part (4096 * b) 4096 c h in
      let x₂ : xs ≡ replicate 4096 255 = x ∙ ap (λ (k : ℕ). replicate k 255) n in
      rw (power_stays f e)
      (part_back (4096 * b) 4096 c xs (ap length x₂ ∙ length-replicate {A = ℕ} 4096 255) ∙ ap (λ (l : List ℕ). splice c (4096 * b) l) x₂)

  -- the noise
  pub erase_cut : length noise ≡ 4096 → xs ≡ noise → f ≡ 1 → put_mid (4096 * b) (4096 * b + 4096 - 4096 * b) c xs ≡ erased (power f) noise b c
  unfolding erased block_at
  erase_cut k x e =
      let n : length (take 4096 (drop (4096 * b) c)) ≡ 4096 = length_part (4096 * b) 4096 c h in
      let x₂ : xs ≡ news (take 4096 (drop (4096 * b) c)) noise = x ∙ sym (each_second _ noise (n ∙ sym k)) in
      rw (power_goes f e)
      (part_back (4096 * b) 4096 c xs (ap length x ∙ k) ∙ ap (λ (l : List ℕ). splice c (4096 * b) l) x₂)

-- ---- the page, lent as a part, became xs when new was laid over it
module _ (f p : ℕ) (noise new c xs : List ℕ) (h : 256 * p + 256 ≤ length c) (x : xs ≡ ands (mid_of (256 * p) (256 * p + 256 - 256 * p) c) new) where
  laid_new : xs ≡ ands (page_at c p) new
  unfolding page_at
  laid_new = x ∙ ap (λ (l : List ℕ). ands l new) (part_out (256 * p) 256 c)

  pub write_whole : 1 < f → put_mid (256 * p) (256 * p + 256 - 256 * p) c xs ≡ written (power f) noise p new c
  unfolding written page_at
  write_whole e =
      rw (power_stays f e)
      (part_back (256 * p) 256 c xs (ap length laid_new ∙ length_each bit_and _ new ∙ length_part (256 * p) 256 c h) ∙ ap (λ (l : List ℕ). splice c (256 * p) l) laid_new)

  -- and then the noise was laid over it, which gave ys: that the page was blank is needed here
  pub write_cut : length new ≡ 256 → blank_at c p ≡ true → Bytes new → (ys : List ℕ) → f ≡ 1 → ys ≡ ors xs noise
      → put_mid (256 * p) (256 * p + 256 - 256 * p) c ys ≡ written (power f) noise p new c
  unfolding written blank_at page_at
  write_cut k bl small ys e y =
      let y₂ : ys ≡ ors new noise =
      y ∙ ap (λ (l : List ℕ). ors l noise) (laid_new ∙ ands_blank (take 256 (drop (256 * p) c)) new (length_part (256 * p) 256 c h) k bl small) in
      rw (power_goes f e)
      (part_back (256 * p) 256 c ys (ap length y₂ ∙ length_each bit_or new noise ∙ k) ∙ ap (λ (l : List ℕ). splice c (256 * p) l) y₂)

-- it is needed: over a byte of zeros the write would leave nothing of what was given, cut short or not
pub over_zeros : ((pg new noise : List ℕ) → length pg ≡ length new → ors (ands pg new) noise ≡ ors new noise) → ⊥
unfolding each
over_zeros f = omega (arith, ap (λ (l : List ℕ). byte l 0) (f (0 ∷ []) (1 ∷ []) (0 ∷ []) refl))

-- ---- an operation by what is left of the number: it was whole, or it was cut short

module _ (noise c c' : List ℕ) (f f' : ℕ) (k : f' ≡ f - 1) where
  module _ (p : ℕ) (g new : List ℕ) (n : new ≡ g) (e : c' ≡ written (power f) noise p new c) where
    pub write_stayed : 0 < f' → c' ≡ written stays noise p g c
    write_stayed l = e ∙ ap (λ (t : Power). written t noise p new c) (power_stays f (omega arith)) ∙ ap (λ (x : List ℕ). written stays noise p x c) n

    pub write_went : 0 < f → f' ≡ 0 → c' ≡ written goes noise p g c
    write_went l z = e ∙ ap (λ (t : Power). written t noise p new c) (power_goes f (omega arith)) ∙ ap (λ (x : List ℕ). written goes noise p x c) n

  module _ (b : ℕ) (e : c' ≡ erased (power f) noise b c) where
    pub erase_stayed : 0 < f' → c' ≡ erased stays noise b c
    erase_stayed l = e ∙ ap (λ (t : Power). erased t noise b c) (power_stays f (omega arith))
