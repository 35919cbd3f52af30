use mathlib.Core.Path.{refl, ap, ◌∙◌}
use Prim.Native.Nat.{ℕ, ◌+◌, ◌%◌}
use native.Mathlib.Omega.{arith}
use Rattle.std.proofs.lemmas.Result.{err_from_is_err_and}
use Rattle.clean.proofs.Runs.{same_none, same_then, same_noise}
use Rattle.opening.proofs.Opens.{opens_at, going_none, going_on, going_halted, room_found, room_none}
use Rattle.opening.proofs.make_room.Goals as goal

pub loop-init : goal.loop-init
loop-init c = record { full = refl; head = c.requires.inside; blocks = refl; left = omega arith; passed = λ w. w; same = same_none _; entries = refl; going = λ big. going_none _ big _ _ _ _ _ _ _ _ }

pub returns-in_err-open_next-clause-right : goal.returns-in_err-open_next-clause-right
returns-in_err-open_next-clause-right c =
    let big = c.requires.some_blocks in
    let v = c.loop.invariant in
    let p = err_from_is_err_and c.from_residual.result c.from_residual.ensures.1 in
    rw (p.1, p.2) (going_halted _ big _ _ _ _ _ _ _ _ _ _ _ _ _ _ _ _ (omega arith) (omega arith) (v.going big) _ _ _ _ (opens_at v.blocks v.entries (same_noise v.same) c.in_err-open_next.ensures.right))

pub returns-then-place-lt-PLACES-clause-right : goal.returns-then-place-lt-PLACES-clause-right
returns-then-place-lt-PLACES-clause-right c =
    let big = c.requires.some_blocks in
    let v = c.loop.invariant in
    room_found _ big _ _ _ _ _ _ _ _ _ _ _ (c.loop.counter + 1) _ (omega arith) (omega arith) (going_on _ big _ _ _ _ _ _ _ _ _ _ _ _ _ _ _ _ (omega arith) (omega arith) (v.going big) _ _ _ _ _ _ _ (c.next.ensures.0 ∙ ap (λ (b : ℕ). (c.loop.place.head.block + 1) % b) v.blocks) c.back.ensures c.fewer.ensures (opens_at v.blocks v.entries (same_noise v.same) c.in_ok-open_next.ensures.right))

pub loop-preserved : goal.loop-preserved
loop-preserved c =
    let v = c.loop.invariant in
    record {
      full = omega (arith, c.in_ok-open_next.ensures.few);
      head = omega (arith, v.blocks, c.next.ensures.1);
      blocks = c.next.ensures.2 ∙ v.blocks;
      left = omega (arith, v.left, c.fewer.ensures);
      passed = λ w. omega (arith, v.passed w, c.back.ensures);
      same = same_then v.same c.open_next.ensures.same;
      entries = c.open_next.auto.index ∙ v.entries;
      going = λ big. going_on _ big _ _ _ _ _ _ _ _ _ _ _ _ _ _ _ _ (omega arith) (omega arith) (v.going big) _ _ _ _ _ _ _ (c.next.ensures.0 ∙ ap (λ (b : ℕ). (c.loop.place.head.block + 1) % b) v.blocks) c.back.ensures c.fewer.ensures (opens_at v.blocks v.entries (same_noise v.same) c.in_ok-open_next.ensures.right);
    }

pub returns-clause-right : goal.returns-clause-right
returns-clause-right c =
    let big = c.requires.some_blocks in
    let v = c.loop.invariant in
    room_none _ big _ _ _ _ _ _ _ _ _ _ _ _ _ _ _ _ (omega arith) (omega arith) (v.going big)
