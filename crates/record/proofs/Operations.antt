-- What the pages of a chip say after an operation, whole and cut. The layers above see a chip only so: by what each page says, and which pages are blank.
-- Assumes nothing.
use mathlib.Core.Path.{◌≡◌, refl, ap, ◌∙◌}
use mathlib.Core.Bool.{Bool, true, false}
use mathlib.Core.Logic.{◌≢◌, ◌⊎◌, inl, inr}
use mathlib.Core.Option.{none, some}
use mathlib.Core.List.{List}
use Prim.Native.Nat.{ℕ, ◌+◌, ◌*◌, ◌/◌, ◌≤◌}
use lib.ListN.{length}
use Rattle.page.specs.Page.{sound, blank, ors}
use Rattle.page.proofs.Cut.{blank_not_sound, sound_not_blank, sound_same}
use Rattle.chip.specs.Chip.{Power, goes, stays, page_at, blank_at, erased, written}
use Rattle.chip.specs.Play.{Writable}
use Rattle.chip.proofs.Pages.{written_whole, written_cut, written_else, erased_else}
use Rattle.record.specs.Record.{Rec, Proper, record_page, seal_page, rec_of, rec_at}
use Rattle.record.proofs.Trip.{record_sound, record_says, seal_sound, seal_says}

rec_unsound : (pg : List ℕ) → sound pg ≡ false → rec_of pg ≡ none
unfolding rec_of
rec_unsound pg e = rw e

-- a blank page says nothing
pub blank_says : (c : List ℕ) (p : ℕ) → blank_at c p ≡ true → rec_at c p ≡ none
unfolding blank_at rec_at
blank_says c p b = go (sound (page_at c p)) refl
  where
    go : (s : Bool) → sound (page_at c p) ≡ s → rec_of (page_at c p) ≡ none
    go true e = absurd (blank_not_sound (page_at c p) b e)
    go false e = rec_unsound (page_at c p) e

-- ---- A WRITE of a sound page: of a record, of a seal, of a copy of a page that says something
module _ (noise : List ℕ) (p : ℕ) (new c : List ℕ) (w : Writable p new c) where
  -- whole: the page says what the given page says, and isn't blank
  pub write_says : rec_at (written stays noise p new c) p ≡ rec_of new
  unfolding rec_at
  write_says = ap rec_of (written_whole noise p new c w)

  pub write_fills : sound new ≡ true → blank_at (written stays noise p new c) p ≡ false
  unfolding blank_at
  write_fills s = ap blank (written_whole noise p new c w) ∙ sound_not_blank new s

  -- cut: it says that, or nothing. (Whether it reads as blank is left open.)
  pub cut_says : sound new ≡ true → (rec_at (written goes noise p new c) p ≡ rec_of new) ⊎ (rec_at (written goes noise p new c) p ≡ none)
  unfolding rec_at
  cut_says s = go (sound (ors new noise)) refl
    where
      go : (b : Bool) → sound (ors new noise) ≡ b → (rec_of (page_at (written goes noise p new c) p) ≡ rec_of new) ⊎ (rec_of (page_at (written goes noise p new c) p) ≡ none)
      go true e = inl (ap rec_of (written_cut noise p new c w ∙ sound_same new noise w.size s e))
      go false e = inr (ap rec_of (written_cut noise p new c w) ∙ rec_unsound (ors new noise) e)

  -- every other page is as it was
  pub write_says_else : (t : Power) (q : ℕ) → q ≢ p → rec_at (written t noise p new c) q ≡ rec_at c q
  unfolding rec_at
  write_says_else t q ne = ap rec_of (written_else noise p new c w t q ne)

  pub write_blank_else : (t : Power) (q : ℕ) → q ≢ p → blank_at (written t noise p new c) q ≡ blank_at c q
  unfolding blank_at
  write_blank_else t q ne = ap blank (written_else noise p new c w t q ne)

-- of a record, cut: the record or nothing
module _ (noise : List ℕ) (p : ℕ) (r : Rec) (f : Proper r) (c : List ℕ) (w : Writable p (record_page r) c) where
  pub record_cut_says : (rec_at (written goes noise p (record_page r) c) p ≡ some r) ⊎ (rec_at (written goes noise p (record_page r) c) p ≡ none)
  record_cut_says = rw (record_says r f) at (cut_says noise p (record_page r) c w (record_sound r f))

-- of a seal, cut: nothing
module _ (noise : List ℕ) (p : ℕ) (c : List ℕ) (w : Writable p seal_page c) where
  pub seal_cut_says : rec_at (written goes noise p seal_page c) p ≡ none
  seal_cut_says = go (cut_says noise p seal_page c w seal_sound)
    where
      go : (rec_at (written goes noise p seal_page c) p ≡ rec_of seal_page) ⊎ (rec_at (written goes noise p seal_page c) p ≡ none) → rec_at (written goes noise p seal_page c) p ≡ none
      go (inl e) = e ∙ seal_says
      go (inr e) = e

-- ---- AN ERASE, whole or cut: nothing is said of the pages in its block
module _ (noise : List ℕ) (b : ℕ) (c : List ℕ) (h : 4096 * b + 4096 ≤ length c) where
  -- the pages of other blocks are as they were
  pub erase_says_else : (t : Power) (q : ℕ) → q / 16 ≢ b → rec_at (erased t noise b c) q ≡ rec_at c q
  unfolding rec_at
  erase_says_else t q ne = ap rec_of (erased_else noise b c h t q ne)

  pub erase_blank_else : (t : Power) (q : ℕ) → q / 16 ≢ b → blank_at (erased t noise b c) q ≡ blank_at c q
  unfolding blank_at
  erase_blank_else t q ne = ap blank (erased_else noise b c h t q ne)
