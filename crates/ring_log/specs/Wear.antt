-- Ages and the potential, by which openings are paid for (document 03, section 3). Nothing here mentions code. Assumes nothing.
use Rattle.std.specs.Prelude.{Bool, true, false, cond, List, [], ◌∷◌, ℕ, suc, ◌+◌, ◌-◌, ◌*◌, ◌/◌, ◌%◌, eqb, leb}
use Rattle.chip.specs.Play.{Op, erase, write}
use Rattle.ring_log.specs.Map.{Map, total}
use Rattle.ring_log.specs.Log.{Placed, FIRST, U}
use Rattle.ring_log.specs.Ring.{Chip, head, next, table}

-- how old a value is, where the head is block number e and has n pages: 1 at the place written last, and one more for each place of the log since
abbrev pub age : ℕ → ℕ → Placed → ℕ
age e n a = U * (e - a.0 / 15) + n - a.0 % 15

-- the sum of the ages
abbrev pub ages : ℕ → ℕ → Map Placed → ℕ
ages e n m = total (age e n) m

-- how many values are older than w: after w places were written, those that were not moved
abbrev pub ripe : ℕ → ℕ → ℕ → Placed → ℕ
ripe w e n a = cond (leb (suc w) (age e n a)) 1 0

-- and in a map
abbrev pub ripes : ℕ → ℕ → ℕ → Map Placed → ℕ
ripes w e n m = total (ripe w e n) m

-- the potential of a chip of k + 2 blocks, by the used places of the head and the sum of the ages
abbrev pub phi : ℕ → ℕ → ℕ → ℕ
phi k used sum = k * ((U - 9) * used) + sum

-- THE POTENTIAL: a call raises it by at most (U - 1) (B - 2), an opening lowers it by at least U (U - 9) (B - 2)
unfoldable pub potential : ℕ → Chip → ℕ
potential B c = phi (B - 2) (next c (head B c) - FIRST) (ages (head B c + B) (next c (head B c)) (table B c))

-- ---- THE ERASES THAT WERE BEGUN, each weighted by its block
abbrev pub weights : (ℕ → ℕ) → List Op → ℕ
weights g [] = 0
weights g (erase b ∷ l) = g b + weights g l
weights g (write p new ∷ l) = weights g l

-- 1 for block x, 0 for another
abbrev pub only : ℕ → ℕ → ℕ
only x b = cond (eqb b x) 1 0

-- how often an erase of block x was begun
abbrev pub erases_of : ℕ → List Op → ℕ
erases_of x l = weights (only x) l

-- 1 for a call that was cut short
abbrev pub missed : Bool → ℕ
missed true = 0
missed false = 1
