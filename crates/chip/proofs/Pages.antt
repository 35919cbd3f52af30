-- What an operation leaves of each page: at the page, in the block, elsewhere. Of a cut erase only this: pages outside the block are as before.
-- Assumes nothing.
use mathlib.Core.Path.{◌≡◌, refl, sym, ap, ◌∙◌}
use mathlib.Core.Bool.{true}
use mathlib.Core.Logic.{◌≢◌}
use mathlib.Core.List.{List}
use Prim.Native.Nat.{ℕ, ◌+◌, ◌*◌, ◌/◌, ◌%◌, ◌≤◌, ◌<◌}
use native.Mathlib.Decide.{dec_lt}
use native.Mathlib.Omega.{arith}
use lib.ListN.{length, take, drop, replicate, length-replicate, get_or-replicate}
use lib.Seq.{take_all, get_or-take, get_or-drop}
use lib.Bits.{bit_or, bit_and}
use Rattle.page.specs.Page.{byte, ors, ands}
use Rattle.page.proofs.Cut.{length_each, ands_blank, blank_of}
use Rattle.chip.specs.Chip.{Power, gone, goes, stays, page_at, block_at, blank_at, news, splice, erased, written}
use Rattle.chip.specs.Play.{Writable}
use Rattle.chip.proofs.Splice.{length_splice, splice_part, splice_early, splice_late}
use Rattle.chip.proofs.Power.{length_part}

pub length_page : (c : List ℕ) (p : ℕ) → 256 * p + 256 ≤ length c → length (page_at c p) ≡ 256
unfolding page_at
length_page c p h = length_part (256 * p) 256 c h

-- ---- n whole pages, xs, in the place of as many from page a on
module _ (c : List ℕ) (a n : ℕ) (xs : List ℕ) (h : 256 * a + 256 * n ≤ length c) (k : length xs ≡ 256 * n) where
  pages_length : length (splice c (256 * a) xs) ≡ length c
  pages_length = length_splice c (256 * a) xs (omega arith)

  pub pages_here : (j : ℕ) → j < n → page_at (splice c (256 * a) xs) (a + j) ≡ take 256 (drop (256 * j) xs)
  unfolding page_at
  pages_here j l =
      let e : 256 * a + 256 * j ≡ 256 * (a + j) = omega arith in
      ap (λ (m : ℕ). take 256 (drop m (splice c (256 * a) xs))) (sym e) ∙ splice_part c (256 * a) xs (256 * j) 256 (omega arith) (omega arith)

  pages_else : (q : ℕ) → (a ≤ q → q < a + n → ⊥) → page_at (splice c (256 * a) xs) q ≡ page_at c q
  unfolding page_at
  pages_else q ne = go (dec_lt q a)
    where
      go : Dec (q < a) → take 256 (drop (256 * q) (splice c (256 * a) xs)) ≡ take 256 (drop (256 * q) c)
      go (yes l) = splice_early c (256 * a) xs (256 * q) 256 (omega arith) (omega arith)
      go (no l) = splice_late c (256 * a) xs (256 * q) 256 (omega arith) (after (dec_lt q (a + n)))
        where
          after : Dec (q < a + n) → 256 * a + length xs ≤ 256 * q
          after (yes m) = absurd (ne (omega arith) m)
          after (no m) = omega arith

-- ---- WRITE
module _ (noise : List ℕ) (p : ℕ) (new c : List ℕ) (w : Writable p new c) where
  here : (xs : List ℕ) → length xs ≡ 256 → page_at (splice c (256 * p) xs) p ≡ xs
  here xs k =
      let e : p + 0 ≡ p = omega arith in
      ap (page_at (splice c (256 * p) xs)) (sym e) ∙ pages_here c p 1 xs (omega (arith, w.inside)) (omega arith) 0 (omega arith) ∙ take_all 256 xs (omega arith)

  anded : length (ands (page_at c p) new) ≡ 256
  anded = length_each bit_and (page_at c p) new ∙ length_page c p w.inside

  noisy : length (ors new noise) ≡ 256
  noisy = length_each bit_or new noise ∙ w.size

  pub length_written : (t : Power) → length (written t noise p new c) ≡ length c
  unfolding written
  length_written gone = refl
  length_written goes = pages_length c p 1 (ors new noise) (omega (arith, w.inside)) (omega (arith, noisy))
  length_written stays = pages_length c p 1 (ands (page_at c p) new) (omega (arith, w.inside)) (omega (arith, anded))

  -- whole: the page holds what was given
  pub written_whole : page_at (written stays noise p new c) p ≡ new
  unfolding written blank_at
  written_whole = here (ands (page_at c p) new) (anded) ∙ ands_blank (page_at c p) new (length_page c p w.inside) w.size w.blank w.bytes

  -- cut: it holds what was given, or noise
  pub written_cut : page_at (written goes noise p new c) p ≡ ors new noise
  unfolding written
  written_cut = here (ors new noise) noisy

  -- every other page is as it was
  pub written_else : (t : Power) (q : ℕ) → q ≢ p → page_at (written t noise p new c) q ≡ page_at c q
  unfolding written
  written_else gone q ne = refl
  written_else goes q ne = pages_else c p 1 (ors new noise) (omega (arith, w.inside)) (omega (arith, noisy)) q (λ x y. ne (omega arith))
  written_else stays q ne = pages_else c p 1 (ands (page_at c p) new) (omega (arith, w.inside)) (omega (arith, anded)) q (λ x y. ne (omega arith))

-- ---- ERASE
module _ (noise : List ℕ) (b : ℕ) (c : List ℕ) (h : 4096 * b + 4096 ≤ length c) where
  ones : length {A = ℕ} (replicate 4096 255) ≡ 4096
  ones = length-replicate {A = ℕ} 4096 255

  noisy_block : length (news (block_at c b) noise) ≡ 4096
  unfolding block_at
  noisy_block = length_each _ (block_at c b) noise ∙ length_part (4096 * b) 4096 c h

  at_block : 4096 * b ≡ 256 * (16 * b)
  at_block = omega arith

  pub length_erased : (t : Power) → length (erased t noise b c) ≡ length c
  unfolding erased
  length_erased gone = refl
  length_erased goes = length_splice c (4096 * b) (news (block_at c b) noise) (omega (arith, noisy_block))
  length_erased stays = length_splice c (4096 * b) (replicate 4096 255) (omega (arith, ones))

  -- the block's pages are those of xs
  pub block_page : (xs : List ℕ) → length xs ≡ 4096 → (q : ℕ) → q / 16 ≡ b → page_at (splice c (4096 * b) xs) q ≡ take 256 (drop (256 * (q % 16)) xs)
  block_page xs k q e =
      let d : 16 * b + q % 16 ≡ q = omega arith in
      ap (λ (a : ℕ). page_at (splice c a xs) q) at_block ∙ ap (page_at (splice c (256 * (16 * b)) xs)) (sym d)
      ∙ pages_here c (16 * b) 16 xs (omega arith) (omega arith) (q % 16) (omega arith)

  block_else : (xs : List ℕ) → length xs ≡ 4096 → (q : ℕ) → q / 16 ≢ b → page_at (splice c (4096 * b) xs) q ≡ page_at c q
  block_else xs k q ne = ap (λ (a : ℕ). page_at (splice c a xs) q) at_block ∙ pages_else c (16 * b) 16 xs (omega arith) (omega arith) q (λ x y. ne (omega arith))

  -- whole: the block's pages are blank
  pub erased_whole : (q : ℕ) → q / 16 ≡ b → blank_at (erased stays noise b c) q ≡ true
  unfolding erased blank_at
  erased_whole q e =
      blank_of _
      (λ i l.
      ap (λ (pg : List ℕ). byte pg i) (block_page (replicate 4096 255) ones q e) ∙ get_or-take 256 (drop (256 * (q % 16)) (replicate 4096 255)) i 0 l
      ∙ get_or-drop (256 * (q % 16)) (replicate 4096 255) i 0 ∙ get_or-replicate 4096 (256 * (q % 16) + i) 255 0 (omega arith))

  -- whole or cut: the pages of other blocks are as they were
  pub erased_else : (t : Power) (q : ℕ) → q / 16 ≢ b → page_at (erased t noise b c) q ≡ page_at c q
  unfolding erased
  erased_else gone q ne = refl
  erased_else goes q ne = block_else (news (block_at c b) noise) noisy_block q ne
  erased_else stays q ne = block_else (replicate 4096 255) ones q ne
