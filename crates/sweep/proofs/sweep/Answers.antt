use mathlib.Core.Path.{refl, ◌∙◌}
use mathlib.Core.Logic.{inl, inr}
use native.Mathlib.Omega.{arith}
use Rattle.std.proofs.lemmas.Result.{err_from_is_err_and}
use Rattle.clean.proofs.Runs.{same_none, same_then, same_noise}
use Rattle.sweep.proofs.Sweeps.{sofar_none, sofar_on, sofar_halted, sofar_all, passes_at}
use Rattle.sweep.proofs.sweep.Goals as goal

pub loop-place-init : goal.loop-place-init
loop-place-init c = record { next = λ m a b. a; left = omega arith; passed = λ l. l; head = refl; same = same_none _; entries = refl; sofar = sofar_none _ _ _ _ _ _ _ _ _ _ _ }

pub returns-in_err-pass-clause-right : goal.returns-in_err-pass-clause-right
returns-in_err-pass-clause-right c =
    let v = c.loop-place.invariant in
    let p = err_from_is_err_and c.from_residual.result c.from_residual.ensures.1 in
    rw (p.1, p.2) (sofar_halted _ _ _ _ _ _ _ _ _ _ _ _ _ _ _ _ _ v.sofar (omega arith) v.left (omega arith) (omega arith) _ _ _ _ (passes_at v.entries (same_noise v.same) c.in_err-pass.ensures.right))

pub loop-place-preserved : goal.loop-place-preserved
loop-place-preserved c =
    let v = c.loop-place.invariant in
    record {
      next = λ m a b. let k = c.in_ok-pass.ensures.more in omega (arith, v.next m a b, k);
      left = omega (arith, v.left);
      passed = λ w. omega (arith, c.requires.sane.few_blocks);
      head = refl;
      same = same_then v.same c.pass.ensures.same;
      entries = c.pass.auto.index ∙ v.entries;
      sofar = sofar_on _ _ _ _ _ _ _ _ _ _ _ _ _ _ _ _ _ v.sofar (omega arith) v.left (omega arith) (omega arith) _ _ _ _ (passes_at v.entries (same_noise v.same) c.in_ok-pass.ensures.right);
    }

pub returns-else-place-head-clause-right : goal.returns-else-place-head-clause-right
returns-else-place-head-clause-right c = sofar_all _ _ _ _ _ _ _ _ _ _ _ _ _ _ _ c.loop-place.invariant.sofar (inr (inl (omega arith)))

pub returns-else-place-top-clause-right : goal.returns-else-place-top-clause-right
returns-else-place-top-clause-right c = sofar_all _ _ _ _ _ _ _ _ _ _ _ _ _ _ _ c.loop-place.invariant.sofar (inr (inr (omega arith)))

pub returns-after-loop-place-clause-right : goal.returns-after-loop-place-clause-right
returns-after-loop-place-clause-right c = sofar_all _ _ _ _ _ _ _ _ _ _ _ _ _ _ _ c.loop-place.invariant.sofar (inl (omega arith))
