-- What the steps of one record more answer: x is the record that is written, a value or a note. Where memory is ready for the chip, they are the steps of a
-- call (`Trace`, crates/ring_log/specs/Call.antt). Assumes nothing.
use Rattle.std.specs.Prelude.{Bool, true, false, ◌&&◌, List, [], ◌≡◌, ℕ, ◌≤◌, ◌<◌, ◌*◌, ◌+◌, ◌-◌, leb, length, take, Result, Ok, Err}
use Rattle.chip.specs.Play.{Op, Did}
use Rattle.record.specs.Record.{most_value, Rec, record_of}
use Rattle.ring_log.specs.Answers.{missing}
use Rattle.ring_log.specs.Call.{resting, Cursor, cursor, begin, Swept, Trace}
use Rattle.ring_log.specs.Key.{Key}
use Rattle.ring_log.specs.Map.{Map, lookup}
use Rattle.ring_log.specs.Ring.{chip_of, room, map_of, Ready}
use Rattle.index.specs.Answers.{Finds, put_at, take_out}
use Rattle.index.specs.Index.{keys_of}
use Rattle.lent.specs.Tested.{number}
use Rattle.lent.specs.Ended.{refusal_number}
use Rattle.chip.specs.declared.Halt.{Halt}
use Rattle.chip.specs.declared.Halt.TheVariants.{Dark, Dirty}
use Rattle.append.specs.declared.Made.{Made}
use Rattle.append.specs.declared.Unmade.{Unmade}
use Rattle.append.specs.declared.Unmade.TheVariants.{Denied, Halted}

-- a key of 1 to 16 bytes, a value of at most most_value
pub record Keyed (key value : List ℕ) : Type 0 where
  pub some_key : 1 ≤ length key
  pub short_key : length key ≤ 16
  pub short_value : length value ≤ most_value

-- the head, the next place, the number of keys and the cursor after a change lie in their ranges
abbrev pub ChangeWithin : {E : Type 0} → ℕ → ℕ → Result Made E → Type 0
ChangeWithin B n (Ok w) = (w.head.block < B) × (w.next ≤ 15) × (w.keys ≤ n + 1) × (w.passed < 4294967296) × (w.head.blocks ≡ B)
ChangeWithin B n (Err u) = Unit {0}

-- a change that is denied leaves chip, fault script and index as they were. (A record around it, so that antt finds the arguments)
abbrev pub ChangeKeptBy : List ℕ → ℕ → List ℕ → List ℕ → ℕ → List ℕ → Result Made Unmade → Type 0
ChangeKeptBy c f ix c' f' ix' (Ok w) = Unit {0}
ChangeKeptBy c f ix c' f' ix' (Err (Denied k)) = (c' ≡ c) × (f' ≡ f) × (ix' ≡ ix)
ChangeKeptBy c f ix c' f' ix' (Err (Halted e)) = Unit {0}

pub record ChangeKept (c : List ℕ) (f : ℕ) (ix c' : List ℕ) (f' : ℕ) (ix' : List ℕ) (r : Result Made Unmade) : Type 0 where
  pub says : ChangeKeptBy c f ix c' f' ix' r

-- the key has no entry
abbrev pub is_missing : Result ℕ ℕ → Bool
is_missing (Ok i) = false
is_missing (Err i) = true

-- the refusals 4 and 3 of a note, or of a value, by whether the key has none yet and how many keys there are; 0 if none is due
abbrev pub denial : Bool → Bool → ℕ → ℕ → ℕ
denial true none n B = number 4 none 0
denial false none n B = number 3 (none && leb (room B) n) 0

-- the same by the map
abbrev pub denial_in : Bool → Key → Map (List ℕ) → ℕ → ℕ
denial_in note k m B = denial note (missing (lookup k m)) (length m) B

-- the index after a record on page p: of a value its entry, and of a note its key taken out
abbrev pub entered : Bool → Result ℕ ℕ → ℕ → List ℕ → List ℕ
entered true f p ps = take_out f ps
entered false f p ps = put_at f p ps

-- ---- THE APPEND, where the cursor is u and no look is left: memory is ready for the new chip, and the call has come to its end; or the power went. No other
-- page than the one that is blank is written
abbrev pub AppendsBy : ℕ → Rec → Cursor → ℕ → List ℕ → List ℕ → ℕ → List ℕ → List Op → Result Made Halt → Type 0
AppendsBy B x u h c c' f' ix' ops (Ok w) =
    (0 < f') × Ready B (chip_of c') w.head.block w.next (take w.keys ix') × (w.keys ≤ room B) × Trace B x u (resting (chip_of c) h) (chip_of c') w.passed ops true
AppendsBy B x u h c c' f' ix' ops (Err Dark) = (f' ≡ 0) × Trace B x u (resting (chip_of c) h) (chip_of c') u.at ops false
AppendsBy B x u h c c' f' ix' ops (Err Dirty) = ⊥

pub record Appends (B h y p n : ℕ) (found : Result ℕ ℕ) (note : Bool) (key value noise c : List ℕ) (f : ℕ) (ix c' : List ℕ) (f' : ℕ) (ix' : List ℕ) (r : Result Made Halt) : Type 0 where
  pub did : Did 0 1 noise c f c' f'
  pub right : (l t : ℕ) → Swept B (cursor p l t) y → 0 < f → Ready B (chip_of c) h y (take n ix) → Finds (keys_of c (take n ix)) key found
      → denial_in note key (map_of B (chip_of c)) B ≡ 0 → AppendsBy B (record_of note key value) (cursor p l t) h c c' f' ix' did.ops r

-- ---- THE CHANGE, from the cursor p on: a denial is the one that is due by the map, and then nothing happened; else it is made, or the power went under it
abbrev pub AltersBy : ℕ → Bool → List ℕ → List ℕ → ℕ → ℕ → List ℕ → ℕ → List ℕ → ℕ → List ℕ → List Op → Result Made Unmade → Type 0
AltersBy B note key value h p c f c' f' ix' ops (Ok w) =
    (0 < f') × Ready B (chip_of c') w.head.block w.next (take w.keys ix') × (w.keys ≤ room B) × (denial_in note key (map_of B (chip_of c)) B ≡ 0)
    × Trace B (record_of note key value) (begin p) (resting (chip_of c) h) (chip_of c') w.passed ops true
AltersBy B note key value h p c f c' f' ix' ops (Err (Denied k)) =
    (refusal_number k ≡ denial_in note key (map_of B (chip_of c)) B) × (0 < refusal_number k) × (f' ≡ f) × (ops ≡ [])
AltersBy B note key value h p c f c' f' ix' ops (Err (Halted Dark)) =
    (f' ≡ 0) × (denial_in note key (map_of B (chip_of c)) B ≡ 0)
    × ((q : ℕ) × Trace B (record_of note key value) (begin p) (resting (chip_of c) h) (chip_of c') q ops false)
AltersBy B note key value h p c f c' f' ix' ops (Err (Halted Dirty)) = ⊥

pub record Alters (B h y p n : ℕ) (note : Bool) (key value noise c : List ℕ) (f : ℕ) (ix c' : List ℕ) (f' : ℕ) (ix' : List ℕ) (r : Result Made Unmade) : Type 0 where
  pub did : Did (B - 2) (16 * (B - 2) + 17) noise c f c' f'
  pub right : 0 < f → Ready B (chip_of c) h y (take n ix) → AltersBy B note key value h p c f c' f' ix' did.ops r
