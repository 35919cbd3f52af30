-- `clean::clean` meets its contract. The invariant: `Turns`, of the places so far. Assumes nothing.
use mathlib.Core.Path.{◌≡◌}
use Prim.Native.Nat.{◌≤◌}
use lib.ListN.{length}
use Rattle.std.specs.Prelude.{Ok}
use Rattle.chip.specs.Lent.{Same}
use Rattle.clean.specs.Steps.{Turns}
use Rattle.clean.proofs.clean.Given as goal

abbrev pub invariant-loop-i : goal.invariant-loop-i
invariant-loop-i l = record {
  few : l.k ≤ 15;
  same : Same l.initial.chip l.chip;
  entries : length l.index ≡ length l.initial.index;
  turns : Turns l.head.blocks (length l.initial.index) l.head.block 0 l.i 0 l.initial.chip.noise.now l.initial.chip.bytes.now l.initial.chip.fuse.now l.initial.index l.chip.bytes.now l.chip.fuse.now l.index (Ok l.k);
}
