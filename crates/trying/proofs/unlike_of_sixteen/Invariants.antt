-- `trying::unlike_of_sixteen` is safe and ends. Assumes nothing.
use Rattle.std.proofs.Common.{◌≤◌}
use Rattle.trying.proofs.unlike_of_sixteen.Given as goal

abbrev pub invariant-loop-i : goal.invariant-loop-i
invariant-loop-i l = l.n ≤ l.i
