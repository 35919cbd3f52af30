-- `chip::erase` meets its contract. Assumes nothing.
use native.Mathlib.Omega.{arith}
use Rattle.chip.specs.Chip.{power, erased}
use Rattle.chip.proofs.Power.{erase_cut, erase_whole}
use borrow.Author.Rules.{rules}
use Rattle.chip.proofs.erase.Goals as goal

pub returns-then-f-eq0 : goal.returns-then-f-eq0
unfolding erased power
returns-then-f-eq0 c = search rules

pub returns-then-f-eq1-clause-chip_after : goal.returns-then-f-eq1-clause-chip_after
returns-then-f-eq1-clause-chip_after c = erase_cut _ _ _ _ _ c.requires c.told-noise c.copy_over.ensures (omega arith)

pub returns-else-f-eq1-clause-chip_after : goal.returns-else-f-eq1-clause-chip_after
returns-else-f-eq1-clause-chip_after c = erase_whole _ _ _ _ _ c.requires (c.fill.ensures.after (λ y e. e)) (omega arith)
