-- `opening::copy_live` meets its contract. Assumes nothing.
use mathlib.Core.Path.{ap}
use mathlib.Core.Bool.{not}
use Rattle.clean.proofs.Turns.{turns_unused}
use Rattle.opening.proofs.copy_live.Goals as goal

pub returns-then-first-clause-right : goal.returns-then-first-clause-right
returns-then-first-clause-right c = turns_unused _ c.requires.sane.some_blocks _ _ _ c.requires.sane.size _ _ _ (ap not (c.requires.first_blank c.if-first.true))
