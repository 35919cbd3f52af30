-- `trying::words::lines` makes no more lines than there are bytes. Assumes nothing.
use Rattle.std.proofs.Common.{◌+◌, ◌≤◌, length, vec_len}
use Rattle.trying.proofs.words.lines.Given as goal

abbrev pub invariant-loop-line : goal.invariant-loop-line
invariant-loop-line l = vec_len l.lines + length l.line-iterator.rest.now ≤ length l.text
