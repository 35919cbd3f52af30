-- `opening::fill_spare` meets its contract. Assumes nothing.
use Rattle.std.proofs.lemmas.Result.{err_from_is_err_and}
use Rattle.clean.proofs.Runs.{same_noise}
use Rattle.opening.proofs.Opens.{fills_sealed, fills_halted}
use Rattle.opening.proofs.fill_spare.Goals as goal

pub returns-in_err-k-clause-right : goal.returns-in_err-k-clause-right
returns-in_err-k-clause-right c =
    let p = err_from_is_err_and c.from_residual.result c.from_residual.ensures.1 in
    rw (p.1, p.2) (fills_halted _ _ _ _ _ _ _ _ _ _ _ c.in_err-k.ensures.right)

pub returns-clause-right : goal.returns-clause-right
returns-clause-right c = fills_sealed _ _ _ _ _ _ _ _ _ _ _ _ _ _ _ (same_noise c.copy_live.ensures.same) c.in_ok-k.ensures.right c.seal_head.ensures.right
