-- `append::make_change` meets its contract. Assumes nothing.
use Rattle.std.proofs.lemmas.Result.{err_from_is_err_and}
use Rattle.clean.proofs.Runs.{same_noise}
use Rattle.append.proofs.Appends.{appends_at, finds_at, places_part, change_denied, change_appended, change_halted}
use Rattle.append.proofs.make_change.Goals as goal

pub returns-in_err-denied-clause-right : goal.returns-in_err-denied-clause-right
returns-in_err-denied-clause-right c =
    let p = err_from_is_err_and c.from_residual.result c.from_residual.ensures.1 in
    rw (p.1, p.2) (change_denied _ c.requires.sane.0.some_blocks _ _ _ c.requires.sane.0.size _ _ _ _ _ c.requires.sane.0.entries _ _ _ _ (finds_at c.bytes.ensures c.find-found.ensures.right) _ c.in_err-denied.ensures)

pub returns-in_err-place-clause-right : goal.returns-in_err-place-clause-right
returns-in_err-place-clause-right c =
    let p = err_from_is_err_and c.from_residual-in_err-place.result c.from_residual-in_err-place.ensures.1 in
    rw (p.1, p.2) (change_halted _ c.requires.sane.0.some_blocks _ _ _ c.requires.sane.0.size _ _ _ _ _ c.requires.sane.0.entries _ _ _ _ (finds_at c.bytes.ensures c.find-found.ensures.right) c.in_ok-denied.ensures _ _ _ _ (places_part _ _ _ _ _ _ _ _ _ _ _ c.requires.sane.0.entries _ _ _ _ _ c.make_place.auto.index c.in_err-place.ensures.right))

pub returns-in_err-append-clause-right : goal.returns-in_err-append-clause-right
returns-in_err-append-clause-right c =
    let p = err_from_is_err_and c.from_residual-in_err-append.result c.from_residual-in_err-append.ensures.1 in
    let w = c.in_ok-place.ensures.within in
    rw (p.1, p.2) (change_appended _ c.requires.sane.0.some_blocks _ _ _ c.requires.sane.0.size _ _ _ _ _ c.requires.sane.0.entries _ _ _ _ (finds_at c.bytes.ensures c.find-found.ensures.right) c.in_ok-denied.ensures _ _ _ _ _ _ _ _ (places_part _ _ _ _ _ _ _ _ _ _ _ c.requires.sane.0.entries _ _ _ _ _ c.make_place.auto.index c.in_ok-place.ensures.right) (appends_at w.says.4 (same_noise c.make_place.ensures.same) c.in_err-append.ensures.right))

pub returns-clause-right : goal.returns-clause-right
returns-clause-right c =
    let w = c.in_ok-place.ensures.within in
    change_appended _ c.requires.sane.0.some_blocks _ _ _ c.requires.sane.0.size _ _ _ _ _ c.requires.sane.0.entries _ _ _ _ (finds_at c.bytes.ensures c.find-found.ensures.right) c.in_ok-denied.ensures _ _ _ _ _ _ _ _ (places_part _ _ _ _ _ _ _ _ _ _ _ c.requires.sane.0.entries _ _ _ _ _ c.make_place.auto.index c.in_ok-place.ensures.right) (appends_at w.says.4 (same_noise c.make_place.ensures.same) c.in_ok-append.ensures.right)
