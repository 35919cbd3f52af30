use mathlib.Core.Path.{◌≡◌, refl, sym, ap, ◌∙◌}
use mathlib.Core.Bool.{true}
use native.Mathlib.Omega.{arith}
use Rattle.page.specs.Page.{all}
use Rattle.page.specs.Look.{agree}
use Rattle.page.proofs.All.{all_more}
use Rattle.page.proofs.Lowest.{agree_at}
use Rattle.page.proofs.first_apart.Goals as goal

pub loop-k-init : goal.loop-k-init
unfolding all
loop-k-init c = refl

pub returns-then-not-flips-clause-lowest : goal.returns-then-not-flips-clause-lowest
returns-then-not-flips-clause-lowest c =
    let same = agree_at c.args.page.now c.loop-k.k _ _ c.flips.ensures (omega arith) in
    record { within = omega arith; below = c.loop-k.invariant; here = λ l. sym same ∙ c.if-not-flips.true }

pub loop-k-preserved : goal.loop-k-preserved
loop-k-preserved c =
    let same = agree_at c.args.page.now c.loop-k.k _ _ c.flips.ensures (omega arith) in
    sym (all_more _ c.loop-k.k true true (sym c.loop-k.invariant) (sym (sym same ∙ c.if-not-flips.false)))

pub returns-clause-lowest : goal.returns-clause-lowest
returns-clause-lowest c =
    let last : 128 ≡ c.loop-k.k = omega arith in
    record { within = omega arith; below = ap (all (agree c.args.page.now)) last ∙ c.loop-k.invariant; here = λ l. absurd (omega arith) }
