-- `tidy::make_more` meets its contract. Assumes nothing.
use Rattle.std.proofs.lemmas.Result.{err_from_is_err_and}
use Rattle.clean.proofs.Runs.{same_noise}
use Rattle.tidy.proofs.Place.{places_at, more_swept, more_halted}
use Rattle.tidy.proofs.make_more.Goals as goal

pub returns-in_err-place-clause-right : goal.returns-in_err-place-clause-right
returns-in_err-place-clause-right c =
    let p = err_from_is_err_and c.from_residual.result c.from_residual.ensures.1 in
    rw (p.1, p.2) (more_halted _ _ _ _ _ _ _ _ _ _ _ _ _ c.in_err-place.ensures.right)

pub returns-clause-right : goal.returns-clause-right
returns-clause-right c =
    let w = c.in_ok-place.ensures.within in
    more_swept _ _ _ _ _ _ _ _ _ _ _ _ _ _ _ _ _ w.says.2 c.in_ok-place.ensures.right (places_at w.says.4 c.make_room.auto.index (same_noise c.make_room.ensures.same) c.sweep_on.ensures.right)
