-- `page::blank_run` meets its contract. The invariant: `ok` says whether the bytes passed are all 0xFF. Assumes nothing.
use mathlib.Core.Path.{◌≡◌}
use Prim.Native.Nat.{◌+◌}
use lib.Dec.{eqb}
use Rattle.page.specs.Page.{byte, all}
use Rattle.page.proofs.blank_run.Given as goal

abbrev pub invariant-loop-x : goal.invariant-loop-x
invariant-loop-x l = l.ok ≡ all (λ k. eqb (byte l.page (l.from + k)) 255) l.x-index
