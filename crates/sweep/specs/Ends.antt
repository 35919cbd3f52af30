-- The range of what is answered. Assumes nothing.
use Rattle.std.specs.Prelude.{ℕ, ◌+◌, ◌≤◌, ◌<◌, Result, Ok, Err}
use Rattle.chip.specs.declared.Halt.{Halt}
use Rattle.clean.specs.declared.Place.{Place}

-- at most one page of the head more than x
abbrev pub OneMore : ℕ → Result ℕ Halt → Type 0
OneMore x (Ok m) = m ≤ x + 1
OneMore x (Err e) = Unit {0}

-- from x pages of the head, where it may have top, and the cursor p, with l looks left: the head is filled no further, no look is won, and the cursor fits a
-- word of 32 bits if it did
abbrev pub SweptWithin : ℕ → ℕ → ℕ → ℕ → Result Place Halt → Type 0
SweptWithin x top p l (Ok w) = ((m : ℕ) → x ≤ m → top ≤ m → w.next ≤ m) × (w.left ≤ l) × (p < 4294967296 → w.passed < 4294967296)
SweptWithin x top p l (Err e) = Unit {0}
