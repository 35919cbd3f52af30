-- `fetch::hand_value` meets its contract. Assumes nothing.
use mathlib.Core.Path.{ap, ◌∙◌}
use native.Mathlib.Omega.{arith}
use Rattle.record.specs.Record.{value_length}
use Rattle.record.proofs.Fields.{length_begins}
use Rattle.fetch.proofs.Rows.{value_short, value_all}
use borrow.Author.Rules.{rules}
use Rattle.fetch.proofs.hand_value.Goals as goal

pub returns-then-buffer-n-clause-right : goal.returns-then-buffer-n-clause-right
returns-then-buffer-n-clause-right c = value_short c.args.chip.now c.args.buffer.now c.args.p _ c.requires (c.value_length-n.ensures ∙ ap value_length c.beginning_at-begins.ensures ∙ length_begins _) (omega arith)

pub read_value-requires : goal.read_value-requires
read_value-requires c = (c.requires, search rules ∙ c.value_length-n.ensures ∙ ap value_length c.beginning_at-begins.ensures ∙ length_begins _)

pub returns-clause-right : goal.returns-clause-right
returns-clause-right c = value_all c.args.chip.now c.args.buffer.now c.args.p _ c.requires (c.value_length-n.ensures ∙ ap value_length c.beginning_at-begins.ensures ∙ length_begins _) _ (omega arith) c.read_value.ensures
