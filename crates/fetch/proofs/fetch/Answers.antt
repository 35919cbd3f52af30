-- `fetch::fetch` meets its contract. Assumes nothing.
use Rattle.fetch.proofs.Rows.{fetches_missing}
use Rattle.fetch.proofs.fetch.Goals as goal

pub returns-in-Err-clause-right : goal.returns-in-Err-clause-right
returns-in-Err-clause-right c = fetches_missing c.args.chip.now c.args.index.now c.args.key.now _ c.in-Err.ensures.right c.args.buffer.now
