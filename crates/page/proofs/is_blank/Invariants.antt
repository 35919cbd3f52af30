-- `page::is_blank` meets its contract. The invariant: the bytes of the runs passed are all 0xFF. Assumes nothing.
use mathlib.Core.Path.{◌≡◌}
use mathlib.Core.Bool.{true}
use Prim.Native.Nat.{◌*◌}
use Rattle.page.proofs.Runs.{blank_to}
use Rattle.page.proofs.is_blank.Given as goal

abbrev pub invariant-loop-run : goal.invariant-loop-run
invariant-loop-run l = blank_to l.page (64 * l.run) ≡ true
