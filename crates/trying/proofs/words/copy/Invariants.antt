-- `trying::words::copy` is safe and ends. Assumes nothing.
use Rattle.std.proofs.Common.{◌≤◌}
use Rattle.trying.specs.declared.words.TheConstants.{LONGEST}
use Rattle.trying.proofs.words.copy.Given as goal

abbrev pub invariant-loop-i : goal.invariant-loop-i
invariant-loop-i l = l.text.length ≤ LONGEST
