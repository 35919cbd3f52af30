-- `start::make_ready` meets its contract. Assumes nothing.
use mathlib.Core.Path.{refl, ap, ◌∙◌}
use mathlib.Core.List.{List}
use Prim.Native.Nat.{ℕ, ◌-◌, ◌≤◌}
use native.Mathlib.Omega.{arith}
use lib.ListN.{length, set, length-set}
use lib.Seq.{take-take}
use borrow.Rule.Slice.PartMut.{mid_len}
use Rattle.lent.proofs.Area.{lent_before}
use Rattle.start.proofs.Starts.{least_part, readies_full, readies_done}
use borrow.Author.Rules.{rules}
use Rattle.start.proofs.make_ready.Goals as goal

pub returns-then-room-n : goal.returns-then-room-n
returns-then-room-n c =
    let w : List ℕ = c.args.work.now in
    let ix : List ℕ = c.replay-n.new.index in
    let z = lent_before 16 (length w - 16) 0 w ix (omega arith) (omega (arith, c.requires.sized.0.long)) ∙ c.requires.sized.3 in
    let m : c.replay-n.result ≤ length ix = omega (arith, c.replay-n.auto.index, mid_len 16 (length w) w (omega arith), c.replay-n.ensures.within, c.requires.sized.1, c.requires.sized.0.long) in
    (readies_full _ _ _ _ _ c.requires.sized.1 m c.replay-n.ensures.right _ (omega (arith, c.room.ensures)) z)

pub shape_of-work : goal.shape_of-work
shape_of-work c = simp length-set (search rules)

pub returns : goal.returns
returns c =
    let w : List ℕ = c.args.work.now in
    let ix : List ℕ = c.replay-n.new.index in
    let l : 16 ≤ length w = omega (arith, c.requires.sized.0.long) in
    let m : c.replay-n.result ≤ length ix = omega (arith, c.replay-n.auto.index, mid_len 16 (length w) w (omega arith), c.replay-n.ensures.within, c.requires.sized.1, c.requires.sized.0.long) in
    (readies_done _ _ _ _ _ c.requires.sized.1 m c.replay-n.ensures.right w _ (length w - 16) _ _ _ _ l (ap (λ (v : List ℕ). set v 0 1) c.note_down.ensures)
    refl c.find_next-next.ensures.right refl (omega (arith, c.room.ensures)) _ _ _ refl (omega (arith, c.find_next-next.ensures.right))
    (take-take c.replay-n.result c.replay-n.result ix (omega arith)) (least_part w ix l c.replay-n.result m _ _ _ _ c.least-passed.ensures))
