-- `page::ones_to` meets its contract. The invariant: `ones` is the number of 1 bits of the bytes passed. Assumes nothing.
use mathlib.Core.Path.{◌≡◌}
use Prim.Native.Nat.{◌*◌}
use Rattle.page.specs.Page.{ones_to}
use Rattle.page.proofs.ones_to.Given as goal

abbrev pub invariant-loop-i : goal.invariant-loop-i
invariant-loop-i l = l.ones ≡ ones_to l.page (8 * l.i)
