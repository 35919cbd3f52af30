-- WHAT IS LENT, and what the work area says: before a call c are the chip's bytes, f the number of the fault script and w the words of the work area; after
-- it c', f' and w'. Every contract of a call speaks in these words. Assumes nothing.
use Rattle.std.specs.Prelude.{false, ◌||◌, List, ◌≡◌, ℕ, ◌≤◌, ◌<◌, ◌*◌, ◌+◌, ◌/◌, eqb, length, take, drop, get_or}
use Rattle.ring_log.specs.Answers.{Lent}
use Rattle.ring_log.specs.Map.{Map}
use Rattle.ring_log.specs.Ring.{chip_of, Ring, map_of, room, most_blocks, Ready}

-- B, for a chip of the bytes c
abbrev pub blocks_of : List ℕ → ℕ
blocks_of c = length c / 4096

-- the lengths of chip and work area are allowed
pub record Sized (c w : List ℕ) : Type 0 where
  pub whole : length c ≡ 4096 * blocks_of c
  pub some_blocks : 4 ≤ blocks_of c
  pub few_blocks : blocks_of c ≤ most_blocks
  pub long : 16 * blocks_of c + 16 ≤ length w

-- and head, next place and number of keys, as the work area has them, lie in their ranges
pub record Checked (c w : List ℕ) : Type 0 where
  pub sized : Sized c w
  pub head : get_or w 1 0 < blocks_of c
  pub next : get_or w 2 0 ≤ 15
  pub few : get_or w 3 0 ≤ room (blocks_of c)

-- THE MAP of a chip
abbrev pub map_in : List ℕ → Map (List ℕ)
map_in c = map_of (blocks_of c) (chip_of c)

-- the mark of a work area
abbrev pub mark : List ℕ → ℕ
mark w = get_or w 0 0

-- where the cursor of cleaning stands
abbrev pub passed : List ℕ → ℕ
passed w = get_or w 4 0

-- what is lent to a call: the power has gone if the script is at 0, or if the mark is 2; the store is ready if the mark is 1
abbrev pub lent_of : List ℕ → ℕ → List ℕ → Lent
lent_of c f w = record { chip = length c; work = length w; dark = eqb f 0 || eqb (mark w) 2; ready = eqb (mark w) 1 }

-- the same for start, to which a mark means nothing
abbrev pub lent_to_start : List ℕ → ℕ → List ℕ → Lent
lent_to_start c f w = record { chip = length c; work = length w; dark = eqb f 0; ready = false }

-- THE AREA SAYS WHAT IS TRUE OF THE CHIP: the head, its next place, the number of keys, the index
pub record Holds (c w : List ℕ) : Type 0 where
  pub few : get_or w 3 0 ≤ room (blocks_of c)
  pub ready : Ready (blocks_of c) (chip_of c) (get_or w 1 0) (get_or w 2 0) (take (get_or w 3 0) (drop 16 w))

-- THE AREA IS AS START AND THE CALLS SINCE LEFT IT: where the power is on and the mark is 1, it says what is true
pub record Kept (c : List ℕ) (f : ℕ) (w : List ℕ) : Type 0 where
  pub holds : Sized c w → 0 < f → mark w ≡ 1 → Holds c w

-- A CHIP OF THIS STORE: a ring, with no more keys than there is room for. On these, and on no others, start succeeds
pub record Store (c : List ℕ) : Type 0 where
  pub ring : (h : ℕ) × Ring (blocks_of c) (chip_of c) h
  pub few : length (map_in c) ≤ room (blocks_of c)
