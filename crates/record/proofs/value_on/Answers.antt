-- `record::value_on` meets its contract. Assumes nothing.
use Rattle.record.proofs.Fields.{value_on_lem}
use Rattle.record.proofs.value_on.Goals as goal

pub returns : goal.returns
returns c = value_on_lem c.args.page.now _ c.value_length-n.ensures
