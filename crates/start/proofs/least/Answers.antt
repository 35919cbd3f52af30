-- `start::least` meets its contract. Assumes nothing.
use Rattle.std.proofs.Common.{ℕ, min, fold, ap, rules, tests, ◌∙◌}
use Rattle.std.proofs.lemmas.Iterator.{YieldsList-from_slice}
use Rattle.std.proofs.lemmas.Iterator.Consumers.{fold_from_yields_List}
use Rattle.start.specs.Least.{log_place_of}
use Rattle.start.proofs.Cursor.{least_fold}
use Rattle.start.proofs.least.Goals as goal

pub returns : goal.returns
returns c =
    fold_from_yields_List _ (λ p q. min p (log_place_of c.oldest.result c.args.head.blocks q)) _ _ c.fold.ensures.ran (YieldsList-from_slice c.args.index.now cc) (λ p q r f k. search (rules, tests))
    ∙ ap (λ (t : ℕ). fold (λ p q. min p (log_place_of t c.args.head.blocks q)) c.args.end c.args.index.now) c.oldest.ensures.0
    ∙ least_fold _ _ _ _
