-- `keys::hand_key` meets its contract. Assumes nothing.
use mathlib.Core.Path.{ap, ◌∙◌}
use native.Mathlib.Omega.{arith}
use Rattle.record.specs.Record.{key_on}
use Rattle.record.proofs.Fields.{key_begins}
use Rattle.keys.proofs.After.{hands_key}
use Rattle.keys.proofs.hand_key.Goals as goal

pub returns-clause-right : goal.returns-clause-right
returns-clause-right c = hands_key c.args.chip.now c.args.index.now c.args.i (omega arith) _ _ _ _ (c.key_on.ensures ∙ ap key_on c.beginning_at-begins.ensures ∙ key_begins _) c.hand_out.ensures.right
