-- `ring::find_next` meets its contract. The invariant: the pages from the place on are blank. Assumes nothing.
use mathlib.Core.Path.{◌≡◌}
use Rattle.ring_log.specs.Ring.{chip_of, next_to}
use Rattle.ring.proofs.find_next.Given as goal

abbrev pub invariant-loop-j : goal.invariant-loop-j
invariant-loop-j l = next_to (chip_of l.chip) l.h 15 ≡ next_to (chip_of l.chip) l.h l.j
