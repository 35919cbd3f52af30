-- `trying::noise::Noise::fill` gives each byte. Assumes nothing.
use Rattle.std.proofs.Common.{◌≡◌, ℕ, ◌+◌, ◌*◌, ◌<◌, length, get_or}
use Rattle.trying.specs.Noises.{noise_byte}
use Rattle.trying.proofs.noise.Noise.fill.Given as goal

abbrev pub invariant-loop-p : goal.invariant-loop-p
invariant-loop-p l = (length l.noise ≡ 4096) × ((k : ℕ) → k < 256 * l.p → get_or l.noise k 0 ≡ noise_byte l.self l.page k)

abbrev pub invariant-loop-i : goal.invariant-loop-i
invariant-loop-i l = (length l.noise ≡ 4096) × ((k : ℕ) → k < 256 * l.p + l.i → get_or l.noise k 0 ≡ noise_byte l.self l.page k)
