use mathlib.Core.Path.{refl}
use Prim.Native.Nat.{◌+◌, ◌-◌}
use native.Mathlib.Omega.{arith}
use lib.ListN.{drop, length-drop}
use lib.Seq.{length-take-le}
use Rattle.page.specs.Page.{all, blank_run}
use Rattle.page.proofs.All.{all_done}
use Rattle.page.proofs.Ones.{byte_part}
use Rattle.page.proofs.Runs.{run_turn}
use Rattle.page.proofs.blank_run.Goals as goal

pub loop-x-init : goal.loop-x-init
unfolding all
loop-x-init c = refl

pub loop-x-preserved : goal.loop-x-preserved
loop-x-preserved c =
    let long = length-take-le (c.args.from + 64 - c.args.from) (drop c.args.from c.args.page.now) (simp length-drop (omega arith)) in
    run_turn c.args.page.now c.args.from c.loop-x.x-index _ _ c.loop-x.invariant (byte_part c.args.page.now c.args.from _ c.loop-x.x-index (omega (arith, long)))

pub returns : goal.returns
unfolding blank_run
returns c =
    let long = length-take-le (c.args.from + 64 - c.args.from) (drop c.args.from c.args.page.now) (simp length-drop (omega arith)) in
    all_done _ c.loop-x.x-index 64 _ c.loop-x.invariant (omega (arith, long))
