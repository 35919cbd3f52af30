use native.Mathlib.Omega.{arith}
use mathlib.Core.Path.{refl}
use Rattle.start.proofs.Bridge.{rows_begin, rows_next, rows_end}
use borrow.Author.Rules.{rules}
use Rattle.start.proofs.replay.Goals as goal

pub loop-k-init : goal.loop-k-init
loop-k-init c = (omega (arith, c.requires.begins.range), refl, rows_begin _ _ _ _ c.requires.begins)

pub returns-2 : goal.returns-2
returns-2 c = record { within = search rules; right = rows_end c.args.head.blocks c.args.head.block c.args.chip.now _ _ (omega arith) (rows_next c.args.head.blocks c.args.head.block c.args.chip.now _ c.loop-k.k _ _ c.requires.sized.0 c.requires.sized.2 (omega (arith, c.requires.begins.range)) c.after.ensures.0 c.replay_block-n.ensures.right c.loop-k.invariant.2) }
