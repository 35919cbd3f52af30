use mathlib.Core.Path.{refl, sym, ◌∙◌}
use Prim.Native.Nat.{◌+◌}
use native.Mathlib.Omega.{arith}
use Rattle.std.proofs.lemmas.Result.{err_from_is_err_and}
use Rattle.clean.proofs.Runs.{same_none, same_then, same_noise}
use Rattle.clean.proofs.Turns.{turns_unlisted, turns_none, turns_next, turns_halted, turns_all}
use Rattle.clean.proofs.clean.Goals as goal

pub returns-then-is_unlisted-clause-right : goal.returns-then-is_unlisted-clause-right
returns-then-is_unlisted-clause-right c = turns_unlisted _ c.requires.some_blocks _ _ _ c.requires.size _ _ _ _ c.oldest.ensures.0 (sym c.is_unlisted.ensures ∙ c.if-is_unlisted.true)

pub loop-i-init : goal.loop-i-init
loop-i-init c = record { few = omega arith; same = same_none _; entries = refl; turns = turns_none _ _ _ _ _ _ _ }

pub returns-in_err-k-clause-right : goal.returns-in_err-k-clause-right
returns-in_err-k-clause-right c =
    let p = err_from_is_err_and c.from_residual.result c.from_residual.ensures.1 in
    let v = c.loop-i.invariant in
    let w = turns_next _ _ _ _ _ _ _ c.loop-i.i _ _ _ _ v.turns _ _ _ _ _ _ v.entries (same_noise v.same) c.in_err-k.ensures.right in
    rw (p.1, p.2) (turns_halted _ _ _ _ _ _ _ _ (c.loop-i.i + 1) _ _ (omega arith) _ _ _ _ w)

pub loop-i-preserved : goal.loop-i-preserved
loop-i-preserved c =
    let v = c.loop-i.invariant in
    record {
      few = c.in_ok-k.ensures.few;
      same = same_then v.same c.look_at.ensures.same;
      entries = c.look_at.auto.index ∙ v.entries;
      turns = turns_next _ _ _ _ _ _ _ c.loop-i.i _ _ _ _ v.turns _ _ _ _ _ _ v.entries (same_noise v.same) c.in_ok-k.ensures.right;
    }

pub returns-clause-right : goal.returns-clause-right
returns-clause-right c = turns_all _ _ _ _ _ _ _ 0 c.loop-i.i _ _ (omega arith) _ _ _ _ c.loop-i.invariant.turns
