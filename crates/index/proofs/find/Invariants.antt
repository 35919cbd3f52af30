-- `index::find` meets its contract. The invariant: the keys before lo come before the key, and those from hi on after it. Assumes nothing.
use Prim.Native.Nat.{◌-◌, ◌≤◌}
use lib.ListN.{length}
use Rattle.index.specs.Index.{Ordered}
use Rattle.index.proofs.Search.{Bracket}
use Rattle.index.proofs.find.Given as goal

abbrev pub invariant-loop-lo : goal.invariant-loop-lo
invariant-loop-lo l =
    (l.lo ≤ l.hi) × (l.hi ≤ length l.index) × (Ordered l.chip l.index → Bracket l.chip l.index l.key l.lo l.hi)

abbrev pub decreases-loop-lo : goal.decreases-loop-lo
decreases-loop-lo l = l.hi - l.lo
