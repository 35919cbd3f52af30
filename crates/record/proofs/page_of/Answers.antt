-- `record::page_of` meets its contract. Assumes nothing.
use mathlib.Core.Path.{◌≡◌, ◌∙◌, ap, ap₂}
use mathlib.Core.List.{List, ◌∷◌}
use Prim.Native.Nat.{ℕ, ◌+◌, ◌-◌}
use lib.ListN.{length, replicate}
use borrow.Rule.Slice.PartMut.{put_mid}
use native.Mathlib.Omega.{arith}
use Rattle.page.specs.Page.{count_form}
use Rattle.chip.specs.Chip.{splice}
use Rattle.record.proofs.Laying.{laid, laid_bare}
use Rattle.chip.proofs.Splice.{part_back}
use Rattle.record.specs.Marks.{mark_byte}
use Rattle.record.proofs.page_of.Goals as goal

filled : (kind mark : ℕ) (key value k v : List ℕ) → kind ≡ mark → k ≡ key → v ≡ value
    → put_mid 32 (32 + length value - 32) (put_mid 16 (16 + length key - 16) (2 ∷ kind ∷ length key ∷ length value ∷ replicate 252 0) k) v
    ≡ splice (splice (2 ∷ mark ∷ length key ∷ length value ∷ replicate 252 0) 16 key) 32 value
filled kind mark key value k v e a b =
    let page : List ℕ = 2 ∷ kind ∷ length key ∷ length value ∷ replicate 252 0 in
    part_back 32 (length value) (put_mid 16 (16 + length key - 16) page k) v (ap length b)
    ∙ ap₂ (λ (x y : List ℕ). splice x 32 y) (part_back 16 (length key) page k (ap length a) ∙ ap (splice page 16) a) b
    ∙ ap (λ (m : ℕ). splice (splice (2 ∷ m ∷ length key ∷ length value ∷ replicate 252 0) 16 key) 32 value) e

pub fill-requires : goal.fill-requires
fill-requires c = (
  omega (arith, c.requires.1),
  laid_bare (mark_byte c.args.mark) c.args.key.now c.args.value.now _ c.requires.0 c.requires.1
      (filled _ _ _ _ _ _ c.byte.ensures c.copy_from_slice.ensures.after c.copy_from_slice-2.ensures.after),
)

pub returns : goal.returns
returns c =
    c.fill.ensures
    ∙ ap count_form (laid (mark_byte c.args.mark) c.args.key.now c.args.value.now _ c.requires.0 c.requires.1
    (filled _ _ _ _ _ _ c.byte.ensures c.copy_from_slice.ensures.after c.copy_from_slice-2.ensures.after))
