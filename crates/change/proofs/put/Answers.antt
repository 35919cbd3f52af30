-- `change::put` meets its contract. Assumes nothing.
use borrow.Author.Rules.{rules}
use Rattle.change.specs.Changed.{PutEnds}
use Rattle.change.proofs.Puts.{handed_up, put_refused, put_ran}
use Rattle.change.proofs.put.Goals as goal

pub returns-in_err-first_refusal : goal.returns-in_err-first_refusal
returns-in_err-first_refusal c =
    handed_up _ _ c.from_residual.ensures.1 (PutEnds c.args.noise.now c.args.chip.now c.args.fuse.now c.args.work.now c.args.key.now c.args.value.now c.args.chip.now c.args.fuse.now c.args.work.now)
    (put_refused c.args.chip.now c.args.fuse.now c.args.work.now c.args.key.now c.args.noise.now _ c.args.value.now c.put_refusal.ensures.right _ c.in_err-first_refusal.ensures.tested)

pub returns : goal.returns
returns c =
    put_ran c.args.chip.now c.args.fuse.now c.args.work.now c.args.key.now c.args.noise.now _ c.args.value.now c.put_refusal.ensures.right _ c.run_change.new.chip.bytes.now _ c.run_change.new.chip.fuse.now
    (search rules) (search rules) _ c.run_change.auto.work _ c.in_ok-first_refusal.ensures.tested (rw (← c.new.ensures.noise, ← c.new.ensures.bytes.1, ← c.new.ensures.fuse.1) c.run_change.ensures.right)
