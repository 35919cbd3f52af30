use mathlib.Core.Path.{sym, ◌∙◌}
use Prim.Native.Nat.{◌*◌}
use native.Mathlib.Omega.{arith}
use Rattle.page.proofs.Runs.{blank_none, blank_more, blank_fails, blank_all}
use Rattle.page.proofs.is_blank.Goals as goal

pub loop-run-init : goal.loop-run-init
loop-run-init c = blank_none _

pub returns-then-not-blank_run : goal.returns-then-not-blank_run
returns-then-not-blank_run c = blank_fails _ _ (omega arith) (sym c.blank_run.ensures ∙ c.if-not-blank_run.true)

pub loop-run-preserved : goal.loop-run-preserved
loop-run-preserved c = blank_more _ (64 * c.loop-run.run) _ _ (omega arith) (omega arith) c.loop-run.invariant (sym c.blank_run.ensures ∙ c.if-not-blank_run.false)

pub returns : goal.returns
returns c = blank_all _ (64 * c.loop-run.run) (omega arith) c.loop-run.invariant
