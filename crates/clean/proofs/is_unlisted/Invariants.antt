-- `clean::is_unlisted` meets its contract. The invariant: the entries passed are all of other blocks, so that those left tell. Assumes nothing.
use mathlib.Core.Path.{◌≡◌}
use Rattle.std.specs.List.{list_all}
use Rattle.clean.specs.Ends.{elsewhere}
use Rattle.clean.proofs.is_unlisted.Given as goal

abbrev pub invariant-loop-run : goal.invariant-loop-run
invariant-loop-run l =
    list_all (elsewhere l.x) l.index ≡ list_all (elsewhere l.x) l.run-iterator.rest.now
