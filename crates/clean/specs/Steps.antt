-- A value carried to another place, and the copies of an opening: what each function did to the chip, and where the index is the one that start made (`Ready`),
-- what that was to the ring. The invariant of the loop is `Opening` (crates/ring_log/specs/Opening.antt); a call is put together by `Leads` and `Cut`
-- (crates/ring_log/specs/Call.antt). Assumes nothing.
use Rattle.std.specs.Prelude.{◌≡◌, ◌≢◌, true, List, [], ◌∷◌, ℕ, ◌+◌, ◌*◌, ◌≤◌, ◌<◌, length, take, set, Option, Some, None, Result, Ok, Err}
use Rattle.std.proofs.Math.Option.{some}
use Rattle.chip.specs.Play.{Op, write, Did}
use Rattle.record.specs.Record.{Rec, rec_of, rec_at, anew}
use Rattle.ring_log.specs.Map.{lookup}
use Rattle.ring_log.specs.Log.{Placed, page_of, oldest, run, pages}
use Rattle.ring_log.specs.Ring.{Chip, chip_of}
use Rattle.ring_log.specs.Call.{Wrote, CutWrote, State, copying, Leads, Cut}
use Rattle.ring_log.specs.Opening.{key_at, Opening, fresh, none_there}
use Rattle.chip.specs.declared.Halt.{Halt}
use Rattle.chip.specs.declared.Halt.TheVariants.{Dark, Dirty}

-- ---- ONE PLACE OF THE LOG, where the index has the pages of the places before s

-- place t has a live value, whose entry is j: the row of its key stands at this very place
pub record LiveAt (B : ℕ) (c : List ℕ) (h t s j : ℕ) : Type 0 where
  pub rec : Rec
  pub row : Placed
  pub says : rec_at c (page_of B t) ≡ some rec
  pub live : lookup rec.key (run B (rec_at c) (h + B) s) ≡ some row
  pub stands : row.0 ≡ t
  pub inside : j < length (run B (rec_at c) (h + B) s)
  pub entry : rec.key ≡ key_at none_there (run B (rec_at c) (h + B) s) j

-- it has none
abbrev pub Dead : ℕ → List ℕ → ℕ → ℕ → ℕ → Type 0
Dead B c h t s = (r : Rec) (a : Placed) → rec_at c (page_of B t) ≡ some r → lookup r.key (run B (rec_at c) (h + B) s) ≡ some a → a.0 ≢ t

-- the one or the other, as it was judged
abbrev pub JudgesBy : ℕ → List ℕ → ℕ → ℕ → ℕ → Option ℕ → Type 0
JudgesBy B c h t s (Some j) = LiveAt B c h t s j
JudgesBy B c h t s None = Dead B c h t s

-- whether page q, that of place t of the ring, holds a live value
pub record Judges (c ix : List ℕ) (n q : ℕ) (r : Option ℕ) : Type 0 where
  pub one : (B h t s : ℕ) → 4 ≤ B → length c ≡ 4096 * B → oldest B (h + B) ≤ t → t < oldest B (h + B) + 15 * B → s ≤ oldest B (h + B) + 15 * B → q ≡ page_of B t
      → take n ix ≡ pages B (run B (rec_at c) (h + B) s) → JudgesBy B c h t s r

-- ---- ONE VALUE

-- its page pg was made anew at place k of block x, m places of which are used now, and its entry j is that page
pub record Carried (x k j : ℕ) (pg c c' : List ℕ) (f' : ℕ) (ix ix' : List ℕ) (ops : List Op) (m : ℕ) : Type 0 where
  pub lit : 0 < f'
  pub one_more : m ≡ k + 1
  pub room : k < 15
  pub entry : ix' ≡ set ix j (16 * x + k)
  pub began : ops ≡ write (16 * x + k) (anew pg) ∷ []
  pub wrote : (r : Rec) → rec_of pg ≡ some r → Wrote (16 * x + k) (some r) (chip_of c) (chip_of c')

-- the power went during the write
pub record Broken (x k : ℕ) (pg c : List ℕ) (f : ℕ) (c' : List ℕ) (f' : ℕ) (ops : List Op) : Type 0 where
  pub out : f' ≡ 0
  pub began : ops ≡ write (16 * x + k) (anew pg) ∷ []
  pub wrote : (r : Rec) → 0 < f → rec_of pg ≡ some r → CutWrote (16 * x + k) (some r) (chip_of c) (chip_of c')

-- which of them, or the block has no such place, or its page is not blank
abbrev pub CarriesBy : ℕ → ℕ → ℕ → List ℕ → List ℕ → ℕ → List ℕ → List ℕ → ℕ → List ℕ → List Op → Result ℕ Halt → Type 0
CarriesBy x k j pg c f ix c' f' ix' ops (Ok m) = Carried x k j pg c c' f' ix ix' ops m
CarriesBy x k j pg c f ix c' f' ix' ops (Err Dark) = Broken x k pg c f c' f' ops
CarriesBy x k j pg c f ix c' f' ix' ops (Err Dirty) = k < 15 → (chip_of c).full (16 * x + k) ≡ true

-- the value on the page pg, whose entry is j, was carried to place k of block x
pub record Carries (x k j : ℕ) (pg noise c : List ℕ) (f : ℕ) (ix c' : List ℕ) (f' : ℕ) (ix' : List ℕ) (r : Result ℕ Halt) : Type 0 where
  pub did : Did 0 1 noise c f c' f'
  pub right : CarriesBy x k j pg c f ix c' f' ix' did.ops r

-- ---- THE PLACES OF THE OLDEST BLOCK

-- in the middle of an opening that began on the chip c₀: place t of the oldest block is looked at next, place s of the spare written next, and the index has
-- the pages of the places before s
pub record Midway (B : ℕ) (c ix : List ℕ) (n h : ℕ) (c₀ : Chip) (t s : ℕ) : Type 0 where
  pub opening : Opening B h c₀ (chip_of c) t s
  pub rows : take n ix ≡ pages B (run B (rec_at c) (h + B) s)

-- the same as a state of a call: i places of the oldest block are done, k of the spare written
abbrev pub midway : ℕ → List ℕ → ℕ → Chip → ℕ → ℕ → State
midway B c h c₀ i k = copying h c₀ (chip_of c) (oldest B (h + B) + i) (fresh B h + k)

-- from place i on j places were looked at: on, with m pages of the spare written; or the power went
abbrev pub TurnsBy : ℕ → ℕ → ℕ → Chip → ℕ → ℕ → ℕ → List ℕ → List ℕ → ℕ → List ℕ → List Op → Result ℕ Halt → Type 0
TurnsBy B n h c₀ i j k c c' f' ix' ops (Ok m) =
    (0 < f') × Midway B c' ix' n h c₀ (oldest B (h + B) + (i + j)) (fresh B h + m) × Leads B (midway B c h c₀ i k) (midway B c' h c₀ (i + j) m) ops
TurnsBy B n h c₀ i j k c c' f' ix' ops (Err Dark) = (f' ≡ 0) × Cut B (midway B c h c₀ i k) (chip_of c') ops
TurnsBy B n h c₀ i j k c c' f' ix' ops (Err Dirty) = ⊥

-- the same, and the operations that it began, whatever the chip and the index were
pub record Turns (B n h i j k : ℕ) (noise c : List ℕ) (f : ℕ) (ix c' : List ℕ) (f' : ℕ) (ix' : List ℕ) (r : Result ℕ Halt) : Type 0 where
  pub did : Did 0 j noise c f c' f'
  pub right : (c₀ : Chip) → 0 < f → Midway B c ix n h c₀ (oldest B (h + B) + i) (fresh B h + k) → TurnsBy B n h c₀ i j k c c' f' ix' did.ops r
