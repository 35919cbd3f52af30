use native.Mathlib.Omega.{arith}
use Rattle.start.proofs.Bridge.{block_next}
use borrow.Author.Rules.{rules}
use Rattle.start.proofs.replay_block.Goals as goal

pub loop-j-preserved : goal.loop-j-preserved
loop-j-preserved c = (search rules, search rules, block_next c.args.chip.now c.args.x _ c.loop-j.j _ _ (omega arith) c.loop-j.invariant.2 c.replay_page-n.ensures.right)
