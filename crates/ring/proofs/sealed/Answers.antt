-- `ring::sealed` meets its contract. Assumes nothing.
use mathlib.Core.Path.{ap}
use mathlib.Core.Bool.{not}
use Rattle.ring.proofs.sealed.Goals as goal

pub returns : goal.returns
returns c = ap not c.blank_at.ensures
