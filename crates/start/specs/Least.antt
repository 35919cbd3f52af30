-- WHERE THE CURSOR OF CLEANING BEGINS: at the least log place of a value, by the index; at the log's end if there is none. Assumes nothing.
use Rattle.std.specs.Prelude.{cond, List, ℕ, zero, suc, ◌+◌, ◌-◌, ◌*◌, ◌/◌, ◌%◌, leb, get_or}
use Rattle.ring_log.specs.Log.{U}

-- how many blocks after block t block x comes, in a ring of b
abbrev pub blocks_after : ℕ → ℕ → ℕ → ℕ
blocks_after t b x = cond (leb (suc x) t) (x + b - t) (x - t)

-- the log place of page q, where block t is the oldest
abbrev pub log_place_of : ℕ → ℕ → ℕ → ℕ
log_place_of t b q = U * blocks_after t b (q / 16) + q % 16

-- the lesser of two numbers
abbrev pub lesser : ℕ → ℕ → ℕ
lesser x y = cond (leb (suc y) x) y x

-- the least log place of the first n entries
unfoldable pub least_of : ℕ → ℕ → ℕ → List ℕ → ℕ → ℕ
least_of t b end ix zero = end
least_of t b end ix (suc n) = lesser (least_of t b end ix n) (log_place_of t b (get_or ix n 0))
