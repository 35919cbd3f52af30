-- `clean::unlisted_run` meets its contract. The invariant: `ok` says whether the entries passed are all of other blocks. Assumes nothing.
use mathlib.Core.Path.{◌≡◌}
use Rattle.clean.specs.Ends.{unlisted}
use Rattle.clean.proofs.unlisted_run.Given as goal

abbrev pub invariant-loop-p : goal.invariant-loop-p
invariant-loop-p l = l.ok ≡ unlisted l.x l.run l.p-index
