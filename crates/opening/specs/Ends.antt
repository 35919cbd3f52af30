-- The range of what is answered. Assumes nothing.
use Rattle.std.specs.Prelude.{◌≡◌, ℕ, ◌≤◌, ◌<◌, Result, Ok, Err}
use Rattle.chip.specs.declared.Halt.{Halt}
use Rattle.clean.specs.declared.Place.{Place}

-- the place is one of a block of the chip; from the cursor p, with l looks left, no look is won, and the cursor fits a word if it did
abbrev pub RoomWithinBy : ℕ → ℕ → ℕ → Result Place Halt → Type 0
RoomWithinBy B p l (Ok w) = (w.head.block < B) × (w.next < 15) × (w.left ≤ l) × (p < 4294967296 → w.passed < 4294967296) × (w.head.blocks ≡ B)
RoomWithinBy B p l (Err e) = Unit {0}

-- (a record around it, so that antt finds the arguments)
pub record RoomWithin (B p l : ℕ) (r : Result Place Halt) : Type 0 where
  pub says : RoomWithinBy B p l r
