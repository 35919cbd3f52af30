-- `record::read_value` meets its contract. Assumes nothing.
use Rattle.record.proofs.Fields.{value_read}
use Rattle.record.proofs.read_value.Goals as goal

pub returns : goal.returns
returns c = value_read c.args.chip.now _ c.args.p _ c.requires.1 c.read.ensures
