-- `start::replay_block` meets its contract. The invariant: the index is that of the places passed. Assumes nothing.
use mathlib.Core.Path.{◌≡◌}
use Prim.Native.Nat.{◌+◌, ◌≤◌}
use lib.ListN.{length, take}
use Rattle.start.specs.Replay.{ReplaysTo}
use Rattle.start.proofs.replay_block.Given as goal

abbrev pub invariant-loop-j : goal.invariant-loop-j
invariant-loop-j l = (l.n ≤ l.n0 + l.j) × (length l.index ≡ length l.initial.index) × ReplaysTo l.chip l.x l.j (take l.n0 l.initial.index) (take l.n l.index)
