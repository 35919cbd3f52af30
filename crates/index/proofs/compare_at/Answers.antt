-- `index::compare_at` meets its contract. Assumes nothing.
use mathlib.Core.Path.{ap, ◌∙◌, subst}
use Rattle.chip.specs.Chip.{page_at}
use Rattle.record.specs.Record.{key_on}
use Rattle.record.proofs.Fields.{key_begins}
use Rattle.ring_log.specs.Key.{Key}
use Rattle.index.specs.Answers.{Compared}
use Rattle.index.proofs.compare_at.Goals as goal

pub returns : goal.returns
returns c =
    subst (λ (j : Key). Compared j c.args.key.now c.compare.result)
    (c.key_on.ensures ∙ ap key_on c.beginning_at-begins.ensures ∙ key_begins (page_at c.args.chip.now c.args.p)) c.compare.ensures
