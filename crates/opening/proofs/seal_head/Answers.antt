-- `opening::seal_head` meets its contract. Assumes nothing.
use native.Mathlib.Omega.{arith}
use Rattle.std.proofs.lemmas.Result.{err_from_is_err_and}
use Rattle.opening.proofs.Opens.{seal_halted, seal_written}
use Rattle.opening.proofs.seal_head.Goals as goal

pub returns-in_err-write-clause-right : goal.returns-in_err-write-clause-right
returns-in_err-write-clause-right c =
    let p = err_from_is_err_and c.from_residual.result c.from_residual.ensures.1 in
    rw (p.1, p.2) (seal_halted _ c.requires.0 _ _ _ _ _ _ _ _ (omega arith) c.seal.ensures _ c.in_err-write.ensures.right)

pub returns-clause-right : goal.returns-clause-right
returns-clause-right c = seal_written _ c.requires.0 _ _ _ _ _ _ _ _ (omega arith) c.seal.ensures c.in_ok-write.ensures.right
