-- `format::erase_all` meets its contract. Assumes nothing.
use mathlib.Core.Path.{refl}
use Prim.Native.Nat.{◌+◌, ◌*◌, ◌≤◌}
use lib.ListN.{length}
use native.Mathlib.Omega.{arith}
use Rattle.chip.proofs.Plays.{did_none, did_more}
use Rattle.format.proofs.Formats.{same_next, did_next, blank_next}
use Rattle.format.proofs.erase_all.Goals as goal

pub loop-x-init : goal.loop-x-init
loop-x-init c = (record { bytes = refl; size = refl; fuse = refl; noise = refl }, did_none _ _, λ p h. absurd (omega arith), λ h. absurd (omega arith))

pub returns-in_err-erase-clause-did : goal.returns-in_err-erase-clause-did
returns-in_err-erase-clause-did c = let i = c.loop-x.invariant in
    did_more (omega arith) (omega arith) (did_next c.args.chip.now c.loop-x.chip c.erase.new.self c.loop-x.x i.0 _ (omega (arith, i.0.size)) c.erase.ensures.same c.erase.ensures.right i.1)

pub loop-x-preserved : goal.loop-x-preserved
loop-x-preserved c = let i = c.loop-x.invariant in
    let h : 4096 * c.loop-x.x + 4096 ≤ length c.loop-x.chip.bytes.now = omega (arith, i.0.size) in (
      same_next c.args.chip.now c.loop-x.chip c.erase.new.self c.loop-x.x i.0 _ h c.erase.ensures.same c.erase.ensures.right,
      did_next c.args.chip.now c.loop-x.chip c.erase.new.self c.loop-x.x i.0 _ h c.erase.ensures.same c.erase.ensures.right i.1,
      blank_next c.args.chip.now c.loop-x.chip c.erase.new.self c.loop-x.x i.0 _ h c.erase.ensures.same c.erase.ensures.right c.in_ok-erase.ensures.right.says i.2,
      λ _. c.in_ok-erase.ensures.right.says,
    )
