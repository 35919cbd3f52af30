-- `ring::blank_from` meets its contract. Assumes nothing.
use Rattle.std.proofs.Common.{refl, ◌∙◌, rules, tests}
use Rattle.std.proofs.lemmas.Iterator.{YieldsList-from_range}
use Rattle.std.proofs.lemmas.Iterator.Search.{all_from_yields_List}
use Rattle.chip.specs.Chip.{blank_at}
use Rattle.ring.proofs.Scan.{all_range}
use Rattle.ring.proofs.blank_from.Goals as goal

pub returns : goal.returns
returns c =
    all_from_yields_List (blank_at c.args.chip.now) _ _ _ c.all.ensures.ran (YieldsList-from_range c.args.from c.args.end _ refl refl) (λ x b q k. search (rules, tests))
    ∙ all_range (blank_at c.args.chip.now) c.args.from _
