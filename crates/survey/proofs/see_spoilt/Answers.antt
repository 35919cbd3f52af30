-- `survey::see_spoilt` meets its contract. Assumes nothing.
use native.Mathlib.Omega.{arith}
use Rattle.survey.proofs.Counts.{see_first, see_later}
use Rattle.survey.proofs.see_spoilt.Goals as goal

pub returns-then-s-eq0 : goal.returns-then-s-eq0
returns-then-s-eq0 c = see_first _ _ c.requires.0 _ (omega arith)

pub returns : goal.returns
returns c = see_later _ _ c.requires.0 _ (omega arith)
