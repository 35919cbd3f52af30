-- `ring::look_at_seals` meets its contract. The invariant: the head, if it was passed, else it is still to be found; and the sealed blocks that were passed.
-- Assumes nothing.
use mathlib.Core.Path.{◌≡◌}
use Prim.Native.Nat.{◌-◌, ◌<◌}
use Rattle.ring_log.specs.Ring.{chip_of, sealed, head_from, head}
use Rattle.ring.specs.Seals.{counted}
use Rattle.ring.proofs.Scan.{pick}
use Rattle.ring.proofs.look_at_seals.Given as goal

abbrev pub invariant-loop-x : goal.invariant-loop-x
invariant-loop-x l =
    (l.head < l.x) × (l.before ≡ sealed (chip_of l.chip) (l.x - 1)) × (head l.b (chip_of l.chip) ≡ pick (chip_of l.chip) l.head (head_from (chip_of l.chip) (l.x - 1) (l.b - l.x)))
    × (l.count ≡ counted (λ y. sealed (chip_of l.chip) y) l.x)
