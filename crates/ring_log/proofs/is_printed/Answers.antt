-- `ring_log::is_printed` meets its contract. Assumes nothing.
use mathlib.Core.Path.{◌∙◌}
use Rattle.std.proofs.Common.{rules, tests}
use Rattle.std.proofs.lemmas.Iterator.{YieldsList-from_slice}
use Rattle.std.proofs.lemmas.Iterator.Search.{all_from_yields_List}
use Rattle.page.proofs.All.{all_list}
use Rattle.ring_log.specs.Answers.{printable, printed}
use Rattle.ring_log.proofs.is_printed.Goals as goal

pub returns : goal.returns
unfolding printed
returns c =
    all_from_yields_List printable _ _ _ c.all.ensures.ran (YieldsList-from_slice c.args.key.now cc) (λ x b q k. search (rules, tests))
    ∙ all_list printable c.args.key.now
