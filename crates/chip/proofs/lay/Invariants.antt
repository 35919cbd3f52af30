-- `chip::lay` meets its contract. The invariant: the first i bytes are done, and the rest are as they were. Assumes nothing.
use mathlib.Core.Path.{◌≡◌}
use Rattle.page.specs.Page.{each}
use Rattle.page.proofs.Grow.{grown}
use Rattle.chip.specs.Chip.{turned}
use Rattle.chip.proofs.lay.Given as goal

abbrev pub invariant-loop-i : goal.invariant-loop-i
invariant-loop-i l = l.dst ≡ grown l.i (each (turned l.set) l.initial.dst l.src) l.initial.dst
