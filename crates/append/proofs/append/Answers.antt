-- `append::append` meets its contract. Assumes nothing.
use native.Mathlib.Omega.{arith}
use Rattle.std.proofs.lemmas.Result.{err_from_is_err_and}
use Rattle.append.proofs.Runs.{proper_of}
use Rattle.append.proofs.Appends.{append_halted, append_on}
use Rattle.append.proofs.append.Goals as goal

pub returns-in_err-write-clause-right : goal.returns-in_err-write-clause-right
returns-in_err-write-clause-right c =
    let p = err_from_is_err_and c.from_residual.result c.from_residual.ensures.1 in
    rw (p.1, p.2) (append_halted _ c.requires.sized.0 _ _ _ c.requires.sized.2 _ _ _ _ _ _ _ _ _ c.requires.sized.4 _ _ _ (omega arith) (proper_of c.args.note _ _ c.requires.entries.2 (λ i. omega (arith, c.type_inv.key i)) (λ i. omega (arith, c.type_inv.value i))) c.encode.ensures _ c.in_err-write.ensures.right)

pub returns-clause-right : goal.returns-clause-right
returns-clause-right c = append_on _ c.requires.sized.0 _ _ _ c.requires.sized.2 _ _ _ _ _ _ _ _ _ c.requires.sized.4 _ _ _ (omega arith) (proper_of c.args.note _ _ c.requires.entries.2 (λ i. omega (arith, c.type_inv.key i)) (λ i. omega (arith, c.type_inv.value i))) c.encode.ensures c.in_ok-write.ensures.right _ _ _ (omega (arith, c.enter-keys.ensures.within, c.enter-keys.auto.index, c.requires.entries.0)) c.enter-keys.ensures.right
