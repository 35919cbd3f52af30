-- `opening::make_room` meets its contract. The invariant: `Going`, an opening for each turn. Assumes nothing.
use mathlib.Core.Path.{◌≡◌}
use Prim.Native.Nat.{◌≤◌, ◌<◌}
use lib.ListN.{length}
use Rattle.chip.specs.Lent.{Same}
use Rattle.opening.proofs.Opens.{Going}
use Rattle.opening.proofs.make_room.Given as goal

abbrev pub invariant-loop : goal.invariant-loop
invariant-loop l = record {
  full : l.place.next ≡ 15;
  head : l.place.head.block < l.fn.head.blocks;
  blocks : l.place.head.blocks ≡ l.fn.head.blocks;
  left : l.place.left ≤ l.left;
  passed : l.passed < 4294967296 → l.place.passed < 4294967296;
  same : Same l.initial.chip l.chip;
  entries : length l.index ≡ length l.initial.index;
  going : (big : 4 ≤ l.fn.head.blocks) → Going l.fn.head.blocks big (length l.initial.index) l.fn.head.block l.passed l.left l.initial.chip.noise.now l.initial.chip.bytes.now l.initial.chip.fuse.now l.initial.index l.chip.bytes.now l.chip.fuse.now l.index l.place.head.block l.place.next l.place.passed l.place.left l.counter;
}
