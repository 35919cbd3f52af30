-- `start::replay` meets its contract. The invariant: the index is that of the blocks passed. Assumes nothing.
use mathlib.Core.Path.{◌≡◌}
use Prim.Native.Nat.{◌+◌, ◌*◌, ◌≤◌}
use lib.ListN.{length, take}
use Rattle.record.specs.Record.{rec_at}
use Rattle.ring_log.specs.Log.{run, pages}
use Rattle.start.proofs.replay.Given as goal

abbrev pub invariant-loop-k : goal.invariant-loop-k
invariant-loop-k l =
    (l.n + 30 ≤ 15 * l.k) × (length l.index ≡ length l.initial.index)
    × (take l.n l.index ≡ pages l.head.blocks (run l.head.blocks (rec_at l.chip) (l.head.block + l.head.blocks) (15 * (l.head.block + l.k))))
