-- `tidy::make_place` meets its contract. Assumes nothing.
use mathlib.Core.Path.{refl}
use native.Mathlib.Omega.{arith}
use Rattle.std.proofs.lemmas.Result.{err_from_is_err_and}
use Rattle.clean.proofs.Runs.{same_noise}
use Rattle.tidy.proofs.Place.{swept_place, places_more, places_at, place_more}
use Rattle.tidy.proofs.make_place.Goals as goal

pub returns-in_err-place-clause-right : goal.returns-in_err-place-clause-right
returns-in_err-place-clause-right c =
    let p = err_from_is_err_and c.from_residual.result c.from_residual.ensures.1 in
    rw (p.1, p.2) (places_more (omega arith) (omega arith) (swept_place _ _ c.args.head _ _ _ _ _ _ _ _ _ _ _ _ tt c.in_err-place.ensures.right))

pub returns-then-place-lt-PLACES-clause-right : goal.returns-then-place-lt-PLACES-clause-right
returns-then-place-lt-PLACES-clause-right c =
    let w = c.in_ok-place.ensures.within in
    let e = c.in_ok-place.ensures.head in
    places_more (omega arith) (omega arith) (swept_place _ _ _ _ _ _ _ _ _ _ _ _ _ _ _ e c.in_ok-place.ensures.right)

pub returns-clause-right : goal.returns-clause-right
returns-clause-right c =
    let w = c.in_ok-place.ensures.within in
    place_more _ _ _ _ _ _ _ _ _ _ _ _ _ _ _ _ _ (omega arith) w.1 c.in_ok-place.ensures.right (places_at refl c.sweep.auto.index (same_noise c.sweep.ensures.same) c.make_more.ensures.right)
