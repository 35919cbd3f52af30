-- `tidy::sweep_on` meets its contract. Assumes nothing.
use Rattle.tidy.proofs.Place.{swept_place}
use Rattle.tidy.proofs.sweep_on.Goals as goal

pub returns-clause-right : goal.returns-clause-right
returns-clause-right c = swept_place _ _ _ _ _ _ _ _ _ _ _ _ _ _ _ c.sweep.ensures.head c.sweep.ensures.right
