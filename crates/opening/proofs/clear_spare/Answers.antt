-- `opening::clear_spare` meets its contract. Assumes nothing.
use native.Mathlib.Omega.{arith}
use mathlib.Core.Path.{refl, sym, ◌∙◌}
use Rattle.opening.proofs.Opens.{clears_first, clears_by}
use Rattle.opening.proofs.clear_spare.Goals as goal

pub returns-then-first-clause-right : goal.returns-then-first-clause-right
returns-then-first-clause-right c = clears_first _ c.requires.sized.0 _ _ _ _ _ refl (sym c.requires.is_first ∙ c.if-first.true)

pub returns-clause-right : goal.returns-clause-right
returns-clause-right c = clears_by _ c.requires.sized.0 _ _ _ _ _ refl (sym c.requires.is_first ∙ c.if-first.false) _ _ c.spare.result (omega arith) c.spare.ensures.0 c.erase.ensures.right.fuse c.erase.ensures.right.chip _ c.erase.ensures.right.says
