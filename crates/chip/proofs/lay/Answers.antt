use mathlib.Core.Path.{refl}
use native.Mathlib.Omega.{arith}
use Rattle.page.proofs.Grow.{grown_from}
use Rattle.chip.specs.Chip.{turned}
use Rattle.chip.proofs.Loops.{each_turn, each_end}
use Rattle.chip.proofs.lay.Goals as goal

pub loop-i-init : goal.loop-i-init
loop-i-init c = grown_from 0 _ _ refl

pub loop-i-preserved : goal.loop-i-preserved
loop-i-preserved c =
    each_turn (turned c.args.set) c.args.dst.now c.args.src.now _ c.loop-i.i c.requires (omega arith) c.loop-i.invariant _ _ c.laid.ensures (omega arith)

pub returns : goal.returns
returns c =
    each_end (turned c.args.set) c.args.dst.now c.args.src.now _ c.loop-i.i c.requires (omega arith) c.loop-i.invariant
