use mathlib.Core.Path.{◌≡◌, ap, ◌∙◌}
use native.Mathlib.Omega.{arith}
use Rattle.page.proofs.Adding.{lanes_to, lanes_none, lanes_more, lanes_all}
use Rattle.page.proofs.one_bits.Goals as goal

pub loop-j-init : goal.loop-j-init
loop-j-init c = (lanes_none _, omega arith)

pub loop-j-preserved : goal.loop-j-preserved
loop-j-preserved c =
    (lanes_more c.args.page.now c.loop-j.j _ _ c.loop-j.invariant.0 c.lane-n.ensures.0, omega (arith, c.lane-n.ensures.1))

pub returns : goal.returns
returns c =
    let four : c.loop-j.j ≡ 4 = omega arith in
    (c.loop-j.invariant.0 ∙ ap (lanes_to c.args.page.now) four ∙ lanes_all c.args.page.now, omega arith)
