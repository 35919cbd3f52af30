-- `page::spoilt_at` meets its contract. Assumes nothing.
use mathlib.Core.Path.{◌∙◌}
use native.Mathlib.Omega.{arith}
use Rattle.page.proofs.Lowest.{spoilt_two, spoilt_one}
use Rattle.page.proofs.spoilt_at.Goals as goal

pub returns-then-page-eq2 : goal.returns-then-page-eq2
returns-then-page-eq2 c = spoilt_two c.args.page.now (omega arith)

pub returns : goal.returns
returns c =
    c.unwrap_or.ensures ∙ spoilt_one c.args.page.now c.if-page-eq2.false c.first_apart.result c.first_apart.ensures.lowest c.first_apart.ensures.within
