-- `trying::words::count_lines` counts no more lines than there are bytes. Assumes nothing.
use Rattle.std.proofs.Common.{◌+◌, ◌≤◌, length}
use Rattle.trying.proofs.words.count_lines.Given as goal

abbrev pub invariant-loop : goal.invariant-loop
invariant-loop l = l.lines + length l.iterator'.rest.now ≤ length l.text
