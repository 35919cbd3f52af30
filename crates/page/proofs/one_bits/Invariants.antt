-- `page::one_bits` meets its contract. The invariant: n is the number of 1 bits of the lanes passed. Assumes nothing.
use mathlib.Core.Path.{◌≡◌}
use Prim.Native.Nat.{◌≤◌, ◌*◌}
use Rattle.page.proofs.Adding.{lanes_to}
use Rattle.page.proofs.one_bits.Given as goal

abbrev pub invariant-loop-j : goal.invariant-loop-j
invariant-loop-j l = (l.n ≡ lanes_to l.page l.j) × (l.n ≤ 512 * l.j)
