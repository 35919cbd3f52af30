-- `chip::copy_over` meets its contract. The invariant: the first i bytes are those of src, and the rest are as they were. Assumes nothing.
use mathlib.Core.Path.{◌≡◌}
use Rattle.page.proofs.Grow.{grown}
use Rattle.chip.proofs.copy_over.Given as goal

abbrev pub invariant-loop-i : goal.invariant-loop-i
invariant-loop-i l = l.dst ≡ grown l.i l.src l.initial.dst
