-- `chip::write` meets its contract. Assumes nothing.
use native.Mathlib.Omega.{arith}
use Rattle.chip.specs.Chip.{power, written}
use Rattle.chip.proofs.Power.{write_cut, write_whole}
use borrow.Author.Rules.{rules}
use Rattle.chip.proofs.write.Goals as goal

pub returns-then-f-eq0 : goal.returns-then-f-eq0
unfolding written power
returns-then-f-eq0 c = search rules

pub returns-then-f-eq1 : goal.returns-then-f-eq1
returns-then-f-eq1 c =
    record { chip_after = write_cut _ _ _ _ _ _ c.requires.sized c.lay.ensures c.told-new c.requires.blank (λ i. omega (arith, c.fits-new i)) _ (omega arith) c.lay-then-f-eq1.ensures; fuse_after = search rules }

pub returns-else-f-eq1 : goal.returns-else-f-eq1
returns-else-f-eq1 c = record { chip_after = write_whole _ _ _ _ _ _ c.requires.sized c.lay.ensures (omega arith); fuse_after = search rules }
