-- `format::format` meets its contract. Assumes nothing.
use mathlib.Core.Path.{ap, ◌∙◌}
use native.Mathlib.Omega.{arith}
use lib.ListN.{length}
use borrow.Author.Rules.{rules}
use Rattle.format.proofs.Formats.{format_done, format_lost}
use Rattle.format.proofs.format.Goals as goal

pub returns-in-Ok-clause-right : goal.returns-in-Ok-clause-right
returns-in-Ok-clause-right c = let s = c.in_ok-b.ensures.sized in
    format_done c.args.chip.now c.args.fuse.now c.args.work.now s.1 (omega arith) (λ e. omega arith) _ s.0 _ _ _ _ (search rules) (search rules)
    (c.erase_all.ensures.same.size ∙ ap length c.new.ensures.bytes.1) c.in-Ok.ensures.right

pub returns-in-Err-clause-right : goal.returns-in-Err-clause-right
returns-in-Err-clause-right c = let s = c.in_ok-b.ensures.sized in
    format_lost c.args.chip.now c.args.fuse.now c.args.work.now s.1 (omega arith) (λ e. omega arith) _ s.0 _ _ _ _ (search rules) (search rules)
    c.in-Err.ensures.right
