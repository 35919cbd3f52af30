-- `page::first_apart` meets its contract. The invariant: the bytes passed agree with their copies. Assumes nothing.
use mathlib.Core.Path.{◌≡◌}
use mathlib.Core.Bool.{true}
use Rattle.page.specs.Page.{all}
use Rattle.page.specs.Look.{agree}
use Rattle.page.proofs.first_apart.Given as goal

abbrev pub invariant-loop-k : goal.invariant-loop-k
invariant-loop-k l = all (agree l.page) l.k ≡ true
