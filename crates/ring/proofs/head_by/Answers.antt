-- `ring::head_by` meets its contract. Assumes nothing.
use mathlib.Core.Path.{sym, ap}
use mathlib.Core.Bool.{Bool, cond}
use Rattle.ring.proofs.head_by.Goals as goal

pub returns-then-head-before : goal.returns-then-head-before
returns-then-head-before c = sym (ap (λ (b : Bool). cond b c.args.x c.args.head) c.if-head-before.true)

pub returns-else-head-before : goal.returns-else-head-before
returns-else-head-before c = sym (ap (λ (b : Bool). cond b c.args.x c.args.head) c.if-head-before.false)
