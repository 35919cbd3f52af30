-- `format::erase_all` meets its contract. The invariant: x erases so far, the first x blocks are blank, and the power is on. Assumes nothing.
use Prim.Native.Nat.{◌*◌, ◌<◌}
use Rattle.chip.specs.Lent.{Same}
use Rattle.chip.specs.Play.{Did}
use Rattle.format.proofs.Formats.{Blank}
use Rattle.format.proofs.erase_all.Given as goal

abbrev pub invariant-loop-x : goal.invariant-loop-x
invariant-loop-x l =
    Same l.initial.chip l.chip × Did l.x 0 l.initial.chip.noise.now l.initial.chip.bytes.now l.initial.chip.fuse.now l.chip.bytes.now l.chip.fuse.now
    × Blank (16 * l.x) l.chip.bytes.now × (0 < l.x → 0 < l.chip.fuse.now)
