-- The steps of an opening around its copies: what each function did to the chip, and where the index is the one that start made (`Ready`), what that was to
-- the ring. Assumes nothing.
use Rattle.std.specs.Prelude.{◌≡◌, List, ℕ, suc, ◌+◌, ◌-◌, ◌*◌, ◌≤◌, ◌<◌, length, take, Result, Ok, Err}
use Rattle.chip.specs.Play.{Op, Did}
use Rattle.record.specs.Record.{rec_at}
use Rattle.ring_log.specs.Log.{oldest, run, pages}
use Rattle.ring_log.specs.Ring.{Chip, chip_of, spare, Ring, next, table, map_of, room, Ready}
use Rattle.ring_log.specs.Call.{State, resting, cursor, Goes, Ends, Leads, LeadsBack, Cut}
use Rattle.ring_log.specs.Opening.{Opening, fresh, Moved}
use Rattle.chip.specs.declared.Halt.{Halt}
use Rattle.chip.specs.declared.Halt.TheVariants.{Dark, Dirty}
use Rattle.clean.specs.declared.Place.{Place}
use Rattle.clean.specs.Steps.{Midway, midway}

-- ---- THE BEGINNING: the spare is blank, whether it was erased or never used
abbrev pub ClearsBy : ℕ → ℕ → List ℕ → List ℕ → ℕ → List Op → Result (Unit {0}) Halt → Type 0
ClearsBy B h c c' f' ops (Ok u) =
    (0 < f') × Opening B h (chip_of c) (chip_of c') (oldest B (h + B) + 0) (fresh B h + 0)
    × (pages B (run B (rec_at c') (h + B) (fresh B h + 0)) ≡ pages B (table B (chip_of c)))
    × Leads B (resting (chip_of c) h) (midway B c' h (chip_of c) 0 0) ops
ClearsBy B h c c' f' ops (Err Dark) = (f' ≡ 0) × Cut B (resting (chip_of c) h) (chip_of c') ops
ClearsBy B h c c' f' ops (Err Dirty) = ⊥

pub record Clears (B h : ℕ) (noise c : List ℕ) (f : ℕ) (c' : List ℕ) (f' : ℕ) (r : Result (Unit {0}) Halt) : Type 0 where
  pub did : Did 1 0 noise c f c' f'
  pub right : 0 < f → Ring B (chip_of c) h → next (chip_of c) h ≡ 15 → ClearsBy B h c c' f' did.ops r

-- ---- THE END: the spare is the head; memory is ready for it, and the map is the one of before; of the values that this call has not moved there is one less
-- for each copy (`Moved`), by which the openings of a call come to an end
pub record Opened (B n h : ℕ) (c₀ : Chip) (c' ix' : List ℕ) (k : ℕ) : Type 0 where
  pub ready : Ready B (chip_of c') (spare B h) k (take n ix')
  pub map : map_of B (chip_of c') ≡ map_of B c₀
  pub progress : (big : 4 ≤ B) (j K : ℕ) → Moved B c₀ h j K → (L : ℕ) × Moved B (chip_of c') (spare B h) (suc j) L

-- from the state st on, in an opening that began on the chip c₀
abbrev pub OpensBy : ℕ → ℕ → ℕ → Chip → State → List ℕ → ℕ → List ℕ → List Op → Result ℕ Halt → Type 0
OpensBy B n h c₀ st c' f' ix' ops (Ok k) = (0 < f') × Opened B n h c₀ c' ix' k × LeadsBack B st (resting (chip_of c') (spare B h)) ops
OpensBy B n h c₀ st c' f' ix' ops (Err Dark) = (f' ≡ 0) × Cut B st (chip_of c') ops
OpensBy B n h c₀ st c' f' ix' ops (Err Dirty) = ⊥

-- from the last place on: the seal
pub record Seals (B h k : ℕ) (noise c : List ℕ) (f : ℕ) (c' : List ℕ) (f' : ℕ) (r : Result ℕ Halt) : Type 0 where
  pub did : Did 0 1 noise c f c' f'
  pub right : (c₀ : Chip) (n : ℕ) (ix : List ℕ) → 0 < f → Midway B c ix n h c₀ (oldest B (h + B) + 15) (fresh B h + k) → next c₀ h ≡ 15 → length (table B c₀) ≤ room B
      → OpensBy B n h c₀ (midway B c h c₀ 15 k) c' f' ix did.ops r

-- from the first place on
pub record Fills (B n h : ℕ) (noise c : List ℕ) (f : ℕ) (ix c' : List ℕ) (f' : ℕ) (ix' : List ℕ) (r : Result ℕ Halt) : Type 0 where
  pub did : Did 0 16 noise c f c' f'
  pub right : (c₀ : Chip) → 0 < f → Midway B c ix n h c₀ (oldest B (h + B) + 0) (fresh B h + 0) → next c₀ h ≡ 15 → length (table B c₀) ≤ room B
      → OpensBy B n h c₀ (midway B c h c₀ 0 0) c' f' ix' did.ops r

-- the whole of it, where the head is full
pub record Opens (B n h : ℕ) (noise c : List ℕ) (f : ℕ) (ix c' : List ℕ) (f' : ℕ) (ix' : List ℕ) (r : Result ℕ Halt) : Type 0 where
  pub did : Did 1 16 noise c f c' f'
  pub right : 0 < f → Ready B (chip_of c) h 15 (take n ix) → OpensBy B n h (chip_of c) (resting (chip_of c) h) c' f' ix' did.ops r

-- ---- ROOM, where the head is full and the cursor stands at p, with l looks left: memory is ready, the map is the one of before, and the head has a place; or
-- the power went. There always is room in the end. A sweep after it leaves a place for the record
abbrev pub RoomsBy : ℕ → ℕ → ℕ → ℕ → ℕ → List ℕ → List ℕ → ℕ → List ℕ → List Op → Result Place Halt → Type 0
RoomsBy B n h p l c c' f' ix' ops (Ok w) =
    (0 < f') × Ready B (chip_of c') w.head.block w.next (take n ix') × (map_of B (chip_of c') ≡ map_of B (chip_of c))
    × ((t : ℕ) → Goes B (cursor p l t) (cursor w.passed w.left 14) (resting (chip_of c) h) (resting (chip_of c') w.head.block) ops)
RoomsBy B n h p l c c' f' ix' ops (Err Dark) = (f' ≡ 0) × ((t : ℕ) → Ends B (cursor p l t) (resting (chip_of c) h) (chip_of c') ops)
RoomsBy B n h p l c c' f' ix' ops (Err Dirty) = ⊥

pub record Rooms (B n h p l : ℕ) (noise c : List ℕ) (f : ℕ) (ix c' : List ℕ) (f' : ℕ) (ix' : List ℕ) (r : Result Place Halt) : Type 0 where
  pub did : Did (B - 2) (16 * (B - 2)) noise c f c' f'
  pub right : 0 < f → Ready B (chip_of c) h 15 (take n ix) → RoomsBy B n h p l c c' f' ix' did.ops r
