use Prim.Native.Nat.{◌+◌, ◌-◌, ◌/◌}
use native.Mathlib.Omega.{arith}
use Rattle.index.proofs.Search.{bracket_start, found_none, turn_inside, turn_up, turn_down, turn_found}
use borrow.Author.Rules.{rules}
use Rattle.index.proofs.find.Goals as goal

pub loop-lo-init : goal.loop-lo-init
loop-lo-init c = (search rules, search rules, λ o. bracket_start _ _ _ _ (omega arith))

pub returns-then-pages-p : goal.returns-then-pages-p
returns-then-pages-p c = record { within = search rules; right = λ o. absurd (turn_inside _ _ c.args.key.now (c.loop-lo.lo + (c.loop-lo.hi - c.loop-lo.lo) / 2) (omega arith) o (omega arith)) }

pub loop-lo-preserved-in-Less : goal.loop-lo-preserved-in-Less
loop-lo-preserved-in-Less c = (search rules, search rules, λ o. turn_up _ _ _ _ (omega arith) o _ c.compare_at.ensures _ _ (c.loop-lo.invariant.2 o) c.in-Less.is)

pub returns-in-Equal : goal.returns-in-Equal
returns-in-Equal c = record { within = search rules; right = λ o. turn_found _ _ _ _ (omega arith) o _ c.compare_at.ensures _ _ (c.loop-lo.invariant.2 o) c.in-Equal.is }

pub loop-lo-preserved : goal.loop-lo-preserved
loop-lo-preserved c = (search rules, search rules, λ o. turn_down _ _ _ _ (omega arith) o _ c.compare_at.ensures _ _ (c.loop-lo.invariant.2 o) c.in-Greater.is)

pub returns : goal.returns
returns c = record { within = search rules; right = λ o. found_none _ _ _ _ _ (c.loop-lo.invariant.2 o) c.loop-lo-test.false (omega arith) }
