-- `clean::look_at` meets its contract. Assumes nothing.
use mathlib.Core.Path.{ap}
use Prim.Native.Nat.{ℕ, ◌+◌, ◌*◌}
use Rattle.clean.proofs.Judge.{judged_at, page_read}
use Rattle.clean.proofs.Turns.{look_on, look_carried}
use Rattle.clean.proofs.look_at.Goals as goal

pub returns-in-None-clause-right : goal.returns-in-None-clause-right
returns-in-None-clause-right c = look_on _ c.requires.sane.some_blocks _ _ _ c.requires.sane.size _ _ _ _ _ c.requires.places.0 _ (ap (λ (x : ℕ). 16 * x + c.args.i) c.oldest.ensures.0) (judged_at c.bytes.ensures c.in-None.ensures.right)

pub returns-in-Some-clause-right : goal.returns-in-Some-clause-right
returns-in-Some-clause-right c = look_carried _ c.requires.sane.some_blocks _ _ _ c.requires.sane.size _ _ _ _ _ c.requires.places.0 _ (ap (λ (x : ℕ). 16 * x + c.args.i) c.oldest.ensures.0) _ _ _ c.in-Some.ensures.within c.spare.ensures.0 (page_read c.bytes-in-Some.ensures _ c.page_at-page.ensures) (judged_at c.bytes.ensures c.in-Some.ensures.right) _ _ _ _ c.carry.ensures.right
