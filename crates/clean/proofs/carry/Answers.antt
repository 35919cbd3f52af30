-- `clean::carry` meets its contract. Assumes nothing.
use mathlib.Core.Path.{refl}
use native.Mathlib.Omega.{arith}
use Rattle.std.proofs.lemmas.Result.{err_from_is_err_and}
use Rattle.clean.proofs.Carries.{carry_halted, carry_written}
use Rattle.clean.proofs.carry.Goals as goal

pub returns-in_err-write-clause-right : goal.returns-in_err-write-clause-right
returns-in_err-write-clause-right c =
    let p = err_from_is_err_and c.from_residual.result c.from_residual.ensures.1 in
    rw (p.1, p.2) (carry_halted _ _ _ _ _ _ _ _ _ _ _ (omega arith) c.told-page (λ i. omega (arith, c.fits-page i)) c.anew.ensures _ c.in_err-write.ensures.right)

pub returns-clause-right : goal.returns-clause-right
returns-clause-right c = carry_written _ _ _ _ _ _ _ _ _ _ _ (omega arith) c.told-page (λ i. omega (arith, c.fits-page i)) c.anew.ensures c.in_ok-write.ensures.right (omega arith) _ refl
