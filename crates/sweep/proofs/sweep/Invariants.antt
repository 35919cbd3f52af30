-- `sweep::sweep` meets its contract. The invariant: `Sofar`, of the places so far; and the ranges. Assumes nothing.
use mathlib.Core.Path.{◌≡◌}
use Prim.Native.Nat.{ℕ, ◌≤◌, ◌<◌}
use lib.ListN.{length}
use Rattle.chip.specs.Lent.{Same}
use Rattle.sweep.proofs.Sweeps.{Sofar}
use Rattle.sweep.proofs.sweep.Given as goal

abbrev pub invariant-loop-place : goal.invariant-loop-place
invariant-loop-place l = record {
  next : (m : ℕ) → l.fn.from.next ≤ m → l.top ≤ m → l.place.next ≤ m;
  left : l.place.left ≤ l.fn.from.left;
  passed : l.fn.from.passed < 4294967296 → l.place.passed < 4294967296;
  head : l.place.head ≡ l.fn.from.head;
  same : Same l.initial.chip l.chip;
  entries : length l.index ≡ length l.initial.index;
  sofar : Sofar l.fn.from.head.blocks (length l.initial.index) l.fn.from.head.block l.fn.from.next l.fn.from.passed l.fn.from.left l.top l.initial.chip.noise.now l.initial.chip.bytes.now l.initial.chip.fuse.now l.initial.index l.chip.bytes.now l.chip.fuse.now l.index l.place.next l.place.passed l.place.left;
}

abbrev pub decreases-loop-place : goal.decreases-loop-place
decreases-loop-place l = l.place.left
