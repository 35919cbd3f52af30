-- `cutting::history`: as many steps as lines were read. Assumes nothing.
use Rattle.std.proofs.Common.{◌≡◌, vec_len}
use Rattle.cutting.proofs.history.Given as goal

abbrev pub invariant-loop-line : goal.invariant-loop-line
invariant-loop-line l = vec_len l.steps ≡ l.line-index
