-- `start::start` meets its contract. Assumes nothing.
use mathlib.Core.Path.{refl, sym, ap, ◌∙◌}
use Prim.Native.Nat.{ℕ}
use Rattle.std.proofs.lemmas.Result.{err_from_is_err_and}
use Rattle.ring_log.specs.Ring.{chip_of, ring_test}
use native.Mathlib.Omega.{arith}
use lib.ListN.{length-set}
use Rattle.lent.proofs.Area.{marked}
use Rattle.start.proofs.Starts.{start_5, start_7, start_unringed, start_ringed}
use Rattle.start.proofs.start.Goals as goal

pub returns-in_err-b : goal.returns-in_err-b
returns-in_err-b c = let p = err_from_is_err_and c.from_residual.result c.from_residual.ensures.1 in
    rw (p.1, p.2) (start_5 c.args.chip.now c.args.fuse.now c.args.work.now c.args.work.now _ c.in_err-b.ensures.none.0 c.in_err-b.ensures.none.1)

pub returns-then-fuse-eq0 : goal.returns-then-fuse-eq0
returns-then-fuse-eq0 c = start_7 c.args.chip.now c.args.fuse.now c.args.work.now c.args.work.now c.in_ok-b.ensures.sized.1 c.if-fuse-eq0.true

pub returns-in_default : goal.returns-in_default
returns-in_default c = let s = c.in_ok-b.ensures.sized in
    start_unringed c.args.chip.now c.args.fuse.now c.args.work.now _ s.1 (omega arith) (simp length-set refl) _ _ s.0 c.look_at_seals-seals.ensures.is_head (ap (λ (B : ℕ). ring_test B (chip_of c.args.chip.now) c.look_at_seals-seals.result.head.block) (sym c.look_at_seals-seals.ensures.blocks) ∙ c.in_default.ensures)
    (marked c.args.work.now 0 (omega (arith, s.1.long)))

pub returns : goal.returns
returns c = let s = c.in_ok-b.ensures.sized in
    start_ringed c.args.chip.now c.args.fuse.now c.args.work.now _ s.1 (omega arith) (c.make_ready.auto.work ∙ length-set c.args.work.now 0 0) _ _ s.0 c.look_at_seals-seals.ensures.is_head
    (ap (λ (B : ℕ). ring_test B (chip_of c.args.chip.now) c.look_at_seals-seals.result.head.block) (sym c.look_at_seals-seals.ensures.blocks) ∙ c.in-Some.ensures.ring) _ c.make_ready.ensures
