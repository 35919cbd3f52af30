-- `change::run_change` meets its contract. Assumes nothing.
use mathlib.Core.Path.{ap}
use mathlib.Core.List.{List}
use Prim.Native.Nat.{ℕ, ◌-◌, ◌/◌}
use native.Mathlib.Omega.{arith}
use lib.ListN.{length}
use borrow.Rule.Slice.PartMut.{mid_len}
use Rattle.change.proofs.Puts.{run_settled}
use Rattle.change.proofs.run_change.Goals as goal

pub make_change-change-requires-clause-sane : goal.make_change-change-requires-clause-sane
make_change-change-requires-clause-sane c = let k = c.requires.0 in
    rw c.bytes.ensures (
      record {
        some_blocks = k.sized.some_blocks;
        few_blocks = k.sized.few_blocks;
        size = k.sized.whole;
        entries = omega (arith, mid_len 16 (length c.args.work.now) c.args.work.now (omega arith), k.few, k.sized.long);
        loud = c.requires.2;
        inside = k.head;
      },
      k.next,
    )

pub returns-clause-right : goal.returns-clause-right
returns-clause-right c = let w : List ℕ = c.args.work.now in
    run_settled c.args.chip.now.bytes.now w c.requires.0 _ _ _ _ _ (length w - 16) (omega arith) _ _ _ _ (ap (λ (l : List ℕ). length l / 4096) c.bytes.ensures) _
    c.make_change-change.ensures.right c.make_change-change.ensures.within c.make_change-change.ensures.kept
    (omega (arith, c.make_change-change.auto.index, mid_len 16 (length w) w (omega arith), c.requires.0.few, c.requires.0.sized.long)) _ _ c.settle.ensures
