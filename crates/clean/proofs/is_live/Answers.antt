-- `clean::is_live` meets its contract. Assumes nothing.
use mathlib.Core.Path.{ap, ◌∙◌}
use native.Mathlib.Omega.{arith}
use Rattle.chip.specs.Chip.{page_at}
use Rattle.record.specs.Record.{key_on}
use Rattle.record.proofs.Fields.{key_begins}
use Rattle.clean.proofs.Judge.{judge_missing, judge_here, judge_elsewhere}
use Rattle.clean.proofs.is_live.Goals as goal

pub returns-in-Ok-clause-right : goal.returns-in-Ok-clause-right
returns-in-Ok-clause-right c = judge_here _ _ _ _ (c.key_on.ensures ∙ ap key_on c.beginning_at-begins.ensures ∙ key_begins (page_at c.args.chip.now c.args.q)) _ c.find.ensures.right _ c.in-Ok.is c.in-Ok.ensures.within (omega arith)

pub returns-in_default-clause-right : goal.returns-in_default-clause-right
returns-in_default-clause-right c = judge_elsewhere _ _ _ _ (c.key_on.ensures ∙ ap key_on c.beginning_at-begins.ensures ∙ key_begins (page_at c.args.chip.now c.args.q)) _ c.find.ensures.right _ c.in-Ok.is c.in-Ok.ensures.within (λ e. omega (arith, e))

pub returns-in_default-2-clause-right : goal.returns-in_default-2-clause-right
returns-in_default-2-clause-right c = judge_missing _ _ _ _ (c.key_on.ensures ∙ ap key_on c.beginning_at-begins.ensures ∙ key_begins (page_at c.args.chip.now c.args.q)) _ c.find.ensures.right _ c.in_default.is
