use mathlib.Core.Path.{refl}
use native.Mathlib.Omega.{arith}
use Rattle.page.specs.Page.{all, flipped}
use Rattle.page.proofs.All.{all_more, all_done}
use Rattle.page.proofs.Lowest.{agree_at}
use Rattle.page.proofs.is_flipped.Goals as goal

pub loop-i-init : goal.loop-i-init
unfolding all
loop-i-init c = refl

pub loop-i-preserved : goal.loop-i-preserved
loop-i-preserved c = all_more _ _ _ _ c.loop-i.invariant (agree_at c.args.page.now c.loop-i.i _ _ c.flips-ok.ensures (omega arith))

pub returns : goal.returns
unfolding flipped
returns c = all_done _ c.loop-i.i 128 _ c.loop-i.invariant (omega arith)
