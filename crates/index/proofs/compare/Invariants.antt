-- `index::compare` meets its contract. The invariant: the bytes so far agree. Assumes nothing.
use mathlib.Core.Path.{◌≡◌}
use lib.ListN.{length, take}
use Rattle.index.proofs.compare.Given as goal

abbrev pub invariant-loop-x : goal.invariant-loop-x
invariant-loop-x l = take (length l.yielded) l.a ≡ take (length l.yielded) l.b
