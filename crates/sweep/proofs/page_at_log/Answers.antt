-- `sweep::page_at_log` meets its contract. Assumes nothing.
use Rattle.sweep.proofs.Passes.{log_page}
use Rattle.sweep.proofs.page_at_log.Goals as goal

pub returns-clause-right : goal.returns-clause-right
returns-clause-right c = log_page _ _ c.args.p _ c.after.ensures.0
