use Rattle.std.proofs.Common.{◌+◌, take, drop, length, get_or, ◌∙◌, sym, arith, rules}
use lib.ListN.{length-drop}
use lib.Seq.{ext_get_or, get_or-take, length-take-le, get_or-drop}
use Rattle.chip.proofs.Loops.{read_turn}
use Rattle.chip.proofs.read.Goals as goal

pub loop-i-preserved : goal.loop-i-preserved
loop-i-preserved c = (search rules, read_turn c.args.chip.now c.loop-i.to c.args.at c.loop-i.i (omega arith) c.loop-i.invariant.1 _ (omega arith))

pub returns : goal.returns
returns c =
    ext_get_or 0 c.loop-i.to (take (length c.args.to.now) (drop c.args.at c.args.chip.now))
    (c.loop-i.invariant.0 ∙ sym (length-take-le (length c.args.to.now) (drop c.args.at c.args.chip.now) (omega (arith, length-drop c.args.at c.args.chip.now))))
    (λ k h. c.loop-i.invariant.1 k (omega arith) ∙ sym (get_or-take (length c.args.to.now) (drop c.args.at c.args.chip.now) k 0 (omega arith) ∙ get_or-drop c.args.at c.args.chip.now k 0))
