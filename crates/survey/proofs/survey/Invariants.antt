-- `survey::survey` meets its contract. The invariant: what is seen so far. Assumes nothing.
use mathlib.Core.Path.{◌≡◌}
use Rattle.survey.specs.Seen.{seen_of, Small}
use Rattle.survey.proofs.survey.Given as goal

abbrev pub invariant-loop-p : goal.invariant-loop-p
invariant-loop-p l = Small l.p l.s × (l.s ≡ seen_of l.chip l.p)
