-- `ring_log::Head::after` meets its contract. Assumes nothing.
use mathlib.Core.Path.{refl}
use Prim.Native.Nat.{◌+◌}
use native.Mathlib.Nat.{mod-lt}
use native.Mathlib.Omega.{arith}
use Rattle.ring_log.proofs.Head.after.Goals as goal

pub returns : goal.returns
returns c = (refl, mod-lt (c.args.self.block + c.args.k) (omega arith))
