use mathlib.Core.Path.{◌≡◌, refl, ap}
use mathlib.Core.List.{List}
use Prim.Native.Nat.{ℕ, ◌+◌, ◌<◌}
use native.Mathlib.Omega.{arith}
use lib.ListN.{length, get_or, set}
use Rattle.page.proofs.Grow.{grown, grown_from, grown_more, grown_all}
use Rattle.chip.proofs.copy_over.Goals as goal

-- a turn, however its place is written
turn : (i j : ℕ) (t d l : List ℕ) → l ≡ grown i t d → j ≡ i → i < length t → i < length d → set l i (get_or t j 0) ≡ grown (i + 1) t d
turn i j t d l e q = grown_more i t d l _ e (ap (λ (k : ℕ). get_or t k 0) q)

pub loop-i-init : goal.loop-i-init
loop-i-init c = grown_from 0 _ _ refl

pub loop-i-preserved : goal.loop-i-preserved
loop-i-preserved c = turn c.loop-i.i _ c.args.src.now c.args.dst.now _ c.loop-i.invariant (omega arith) (omega arith) (omega arith)

pub returns : goal.returns
returns c = grown_all c.loop-i.i c.args.src.now c.args.dst.now _ c.loop-i.invariant (omega arith) (omega arith)
