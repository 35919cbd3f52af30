use Rattle.clean.proofs.Unlisted.{run_passed, run_failed, all_passed}
use Rattle.clean.proofs.is_unlisted.Goals as goal

pub returns-then-not-unlisted_run : goal.returns-then-not-unlisted_run
returns-then-not-unlisted_run c = run_failed _ _ _ c.loop-run.invariant _ _ c.in-Some.ensures.steps.1.0 c.if-not-unlisted_run.ensures

pub loop-run-preserved : goal.loop-run-preserved
loop-run-preserved c = run_passed _ _ _ c.loop-run.invariant _ _ c.in-Some.ensures.steps.1.0 c.if-not-unlisted_run.ensures

pub returns : goal.returns
returns c = all_passed _ _ _ c.loop-run.invariant c.in-None.ensures.steps.1.0
