-- What was done to the chip before the record, and where memory is ready for the chip, what that was to the call (`Goes`, `Ends`, crates/ring_log/specs/Call.antt).
-- Assumes nothing.
use Rattle.std.specs.Prelude.{◌≡◌, List, ℕ, ◌<◌, take, Result, Ok, Err}
use Rattle.chip.specs.Play.{Op, Did}
use Rattle.ring_log.specs.Ring.{chip_of, map_of, Ready}
use Rattle.ring_log.specs.Call.{resting, Cursor, cursor, Swept, Goes, Ends}
use Rattle.chip.specs.declared.Halt.{Halt}
use Rattle.chip.specs.declared.Halt.TheVariants.{Dark, Dirty}
use Rattle.clean.specs.declared.Place.{Place}

-- A PLACE FOR THE RECORD, from the cursor u on: memory is ready, the map is the one of before, the head has a place, and no look is left; or the power went
abbrev pub PlacesBy : ℕ → ℕ → ℕ → Cursor → List ℕ → List ℕ → ℕ → List ℕ → List Op → Result Place Halt → Type 0
PlacesBy B n h u c c' f' ix' ops (Ok w) =
    (0 < f') × Ready B (chip_of c') w.head.block w.next (take n ix') × (map_of B (chip_of c') ≡ map_of B (chip_of c))
    × ((t : ℕ) × Swept B (cursor w.passed w.left t) w.next × Goes B u (cursor w.passed w.left t) (resting (chip_of c) h) (resting (chip_of c') w.head.block) ops)
PlacesBy B n h u c c' f' ix' ops (Err Dark) = (f' ≡ 0) × Ends B u (resting (chip_of c) h) (chip_of c') ops
PlacesBy B n h u c c' f' ix' ops (Err Dirty) = ⊥

-- where the head has y pages, with at most e erases and w writes
pub record Places (e w B n h y : ℕ) (u : Cursor) (noise c : List ℕ) (f : ℕ) (ix c' : List ℕ) (f' : ℕ) (ix' : List ℕ) (r : Result Place Halt) : Type 0 where
  pub did : Did e w noise c f c' f'
  pub right : 0 < f → Ready B (chip_of c) h y (take n ix) → PlacesBy B n h u c c' f' ix' did.ops r
