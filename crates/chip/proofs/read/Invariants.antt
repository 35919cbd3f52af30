-- `chip::read` meets its contract. The invariant: the first i bytes are those of the chip. Assumes nothing.
use Rattle.std.proofs.Common.{ℕ, ◌≡◌, ◌+◌, ◌<◌, length, get_or}
use Rattle.chip.proofs.read.Given as goal

abbrev pub invariant-loop-i : goal.invariant-loop-i
invariant-loop-i l = (length l.to ≡ length l.initial.to) × ((k : ℕ) → k < l.i → get_or l.to k 0 ≡ get_or l.chip (l.at + k) 0)
