-- The refusals 1 and 2 of what is to be put, as numbers. Assumes nothing.
use mathlib.Core.Path.{◌≡◌, refl}
use mathlib.Core.List.{List}
use mathlib.Core.Bool.{Bool, true, false, not, ◌||◌}
use Prim.Native.Nat.{ℕ, ◌+◌}
use lib.Dec.{eqb, leb}
use lib.ListN.{length}
use Rattle.record.specs.Record.{most_value}
use Rattle.ring_log.specs.Answers.{printed, refuse, keyed}
use Rattle.ring_log.specs.Answers.{Answer as Says}
use Rattle.lent.specs.Tested.{number, due}
use Rattle.change.specs.Steps.{put_number}

-- ---- THE ANSWER OF DOCUMENT 01, by the number that is due
module _ {A : Type 0} where
  pub keyed_due : (k v : List ℕ) (a : Says A) → keyed k (refuse 1 (not (printed k)) (refuse 2 (leb (most_value + 1) (length v)) a)) ≡ due (put_number k v) a
  unfolding refuse
  keyed_due k v a = go (eqb (length k) 0 || leb 17 (length k)) (printed k) (leb (most_value + 1) (length v))
    where
      go : (x y z : Bool) → refuse 1 x (refuse 1 (not y) (refuse 2 z a)) ≡ due (number 1 x (number 1 (not y) (number 2 z 0))) a
      go true y z = refl
      go false false z = refl
      go false true true = refl
      go false true false = refl
