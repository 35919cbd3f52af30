use mathlib.Core.Path.{◌≡◌, ap, ◌∙◌}
use Prim.Native.Nat.{◌≤◌, ◌+◌, ◌*◌}
use native.Mathlib.Omega.{arith}
use Rattle.page.specs.Page.{ones_to}
use Rattle.page.proofs.Ones.{ones_none, ones_most}
use Rattle.page.proofs.Adding.{ones_up}
use Rattle.page.proofs.ones_to.Goals as goal

pub loop-i-init : goal.loop-i-init
loop-i-init c = ones_none _

pub overflow_add-ones : goal.overflow_add-ones
overflow_add-ones c =
    let most : ones_to c.args.page.now (8 * c.loop-i.i + 8) ≤ 8 * (8 * c.loop-i.i + 8) = ones_most c.args.page.now (λ k. omega (arith, c.fits-page k)) (8 * c.loop-i.i + 8) in
    omega (arith, c.eight_at.ensures, ones_up c.args.page.now (8 * c.loop-i.i))

pub loop-i-preserved : goal.loop-i-preserved
loop-i-preserved c =
    let next : 8 * c.loop-i.i + 8 ≡ 8 * (c.loop-i.i + 1) = omega arith in
    omega (arith, c.eight_at.ensures, ones_up c.args.page.now (8 * c.loop-i.i), ap (ones_to c.args.page.now) next)

pub returns : goal.returns
returns c =
    let last : 8 * c.loop-i.i ≡ 8 * c.args.n = omega arith in
    c.loop-i.invariant ∙ ap (ones_to c.args.page.now) last
