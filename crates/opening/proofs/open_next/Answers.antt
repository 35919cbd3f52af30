-- `opening::open_next` meets its contract. Assumes nothing.
use Rattle.std.proofs.lemmas.Result.{err_from_is_err_and}
use Rattle.clean.proofs.Runs.{same_noise}
use Rattle.opening.proofs.Opens.{opens_filled, opens_halted}
use Rattle.opening.proofs.open_next.Goals as goal

pub returns-in_err-clear_spare-clause-right : goal.returns-in_err-clear_spare-clause-right
returns-in_err-clear_spare-clause-right c =
    let p = err_from_is_err_and c.from_residual.result c.from_residual.ensures.1 in
    rw (p.1, p.2) (opens_halted _ _ _ _ _ _ _ _ _ _ c.in_err-clear_spare.ensures.right)

pub returns-clause-right : goal.returns-clause-right
returns-clause-right c = opens_filled _ _ _ _ _ _ _ _ _ _ _ _ _ _ (same_noise c.clear_spare.ensures.same) c.in_ok-clear_spare.ensures.right c.fill_spare.ensures.right
