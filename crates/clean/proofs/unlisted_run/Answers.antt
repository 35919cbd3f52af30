use mathlib.Core.Path.{refl}
use Rattle.page.specs.Page.{all}
use Rattle.page.proofs.All.{all_more}
use Rattle.clean.specs.Ends.{unlisted}
use Rattle.clean.proofs.unlisted_run.Goals as goal

pub loop-p-init : goal.loop-p-init
unfolding unlisted all
loop-p-init c = refl

pub loop-p-preserved : goal.loop-p-preserved
unfolding unlisted
loop-p-preserved c = all_more _ _ _ _ c.loop-p.invariant c.is_elsewhere-ok.ensures
