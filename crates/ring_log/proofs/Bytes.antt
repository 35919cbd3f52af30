-- From bytes to the ring: what the chip's operations, on bytes, are to a chip as the ring sees it. Above this file nobody speaks of bytes. Assumes nothing.
use mathlib.Core.Path.{◌≡◌, ap, ◌∙◌}
use mathlib.Core.Logic.{◌⊎◌, inl, inr}
use mathlib.Core.Bool.{true, not}
use mathlib.Core.Option.{Option, none, some}
use mathlib.Core.List.{List}
use Prim.Native.Nat.{ℕ, ◌+◌, ◌*◌, ◌≤◌}
use lib.ListN.{length}
use Rattle.page.specs.Page.{sound}
use Rattle.chip.specs.Chip.{Power, goes, stays, written, erased}
use Rattle.chip.specs.Play.{Writable}
use Rattle.chip.proofs.Pages.{erased_whole}
use Rattle.record.specs.Record.{Rec, Proper, rec_of, rec_at, record_page, seal_page}
use Rattle.record.proofs.Trip.{record_sound, record_says, seal_sound, seal_says}
use Rattle.record.proofs.Reading.{said}
use Rattle.record.proofs.Operations.{write_says, write_fills, cut_says, write_says_else, write_blank_else, erase_says_else, erase_blank_else}
use Rattle.ring_log.specs.Ring.{chip_of}
use Rattle.ring_log.specs.Call.{Page, Block, Erased, Wrote, CutWrote}

-- ---- A WRITE of a page g that is sound and says o: whole, and cut
module _ (noise : List ℕ) (p : ℕ) (g c : List ℕ) (w : Writable p g c) where
  page_only : (t : Power) → Page p (chip_of c) (chip_of (written t noise p g c))
  page_only t =
      record { recs = λ q ne. write_says_else noise p g c w t q ne; full = λ q ne. ap not (write_blank_else noise p g c w t q ne) }

  module _ (o : Option Rec) (s : sound g ≡ true) (e : rec_of g ≡ o) where
    -- whole
    pub wrote : Wrote p o (chip_of c) (chip_of (written stays noise p g c))
    wrote = record { page = page_only stays; says = write_says noise p g c w ∙ e; fills = ap not (write_fills noise p g c w s) }

    -- cut short
    pub cut_wrote : CutWrote p o (chip_of c) (chip_of (written goes noise p g c))
    cut_wrote = record { page = page_only goes; says = go (cut_says noise p g c w s) }
      where
        go : (rec_at (written goes noise p g c) p ≡ rec_of g) ⊎ (rec_at (written goes noise p g c) p ≡ none)
            → (rec_at (written goes noise p g c) p ≡ o) ⊎ (rec_at (written goes noise p g c) p ≡ none)
        go (inl d) = inl (d ∙ e)
        go (inr d) = inr d

-- of a record, of a seal, and of a copy: a page that says what another says
module _ (noise : List ℕ) (p : ℕ) (c : List ℕ) where
  module _ (r : Rec) (f : Proper r) (w : Writable p (record_page r) c) where
    -- a record, whole
    pub wrote_record : Wrote p (some r) (chip_of c) (chip_of (written stays noise p (record_page r) c))
    wrote_record = wrote noise p (record_page r) c w (some r) (record_sound r f) (record_says r f)

    -- a record, cut short
    pub cut_record : CutWrote p (some r) (chip_of c) (chip_of (written goes noise p (record_page r) c))
    cut_record = cut_wrote noise p (record_page r) c w (some r) (record_sound r f) (record_says r f)

  module _ (w : Writable p seal_page c) where
    -- a seal, whole
    pub wrote_seal : Wrote p none (chip_of c) (chip_of (written stays noise p seal_page c))
    wrote_seal = wrote noise p seal_page c w none seal_sound seal_says

    -- a seal, cut short
    pub cut_seal : CutWrote p none (chip_of c) (chip_of (written goes noise p seal_page c))
    cut_seal = cut_wrote noise p seal_page c w none seal_sound seal_says

  module _ (g : List ℕ) (r : Rec) (says : rec_of g ≡ some r) (w : Writable p g c) where
    -- a copy, whole
    pub wrote_copy : Wrote p (some r) (chip_of c) (chip_of (written stays noise p g c))
    wrote_copy = wrote noise p g c w (some r) (said g r says).is_sound says

    -- a copy, cut short
    pub cut_copy : CutWrote p (some r) (chip_of c) (chip_of (written goes noise p g c))
    cut_copy = cut_wrote noise p g c w (some r) (said g r says).is_sound says

-- ---- AN ERASE: whole, and in any case
module _ (noise : List ℕ) (b : ℕ) (c : List ℕ) (h : 4096 * b + 4096 ≤ length c) where
  -- whole or cut, its block alone changes
  pub block_erased : (t : Power) → Block b (chip_of c) (chip_of (erased t noise b c))
  block_erased t =
      record { recs = λ q ne. erase_says_else noise b c h t q ne; full = λ q ne. ap not (erase_blank_else noise b c h t q ne) }

  -- whole, its block is blank
  pub whole_erased : Erased b (chip_of c) (chip_of (erased stays noise b c))
  whole_erased = record { block = block_erased stays; blank = λ p e. ap not (erased_whole noise b c h p e) }
