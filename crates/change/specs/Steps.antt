-- What put refuses of its arguments, and what the body of put and delete answers, once all is tested. Assumes nothing.
use Rattle.std.specs.Prelude.{Bool, not, List, ◌≡◌, ℕ, ◌+◌, ◌-◌, ◌<◌, ◌*◌, leb, length, set, Result, Ok, Err}
use Rattle.chip.specs.Play.{Did}
use Rattle.record.specs.Record.{most_value, record_of}
use Rattle.ring_log.specs.Answers.{done, printed}
use Rattle.ring_log.specs.Map.{alter}
use Rattle.lent.specs.Area.{blocks_of, map_in, mark, Kept}
use Rattle.lent.specs.Tested.{number, key_number, due}
use Rattle.lent.specs.Ended.{Answer, Done, Refused, refusal_number}
use Rattle.change.specs.Changed.{RefusedKept, Changes}
use Rattle.append.specs.Steps.{denial_in}
use Rattle.append.specs.declared.Made.{Made}
use Rattle.append.specs.declared.Unmade.{Unmade}
use Rattle.append.specs.declared.Unmade.TheVariants.{Denied, Halted}
use Rattle.chip.specs.declared.Halt.TheVariants.{Dark, Dirty}

-- the refusals 1 and 2 of what is to be put, as a number: the key's length, its bytes, the value's length
abbrev pub put_number : List ℕ → List ℕ → ℕ
put_number key value = key_number key (number 1 (not (printed key)) (number 2 (leb (most_value + 1) (length value)) 0))

-- the numbers of a change that was made are words of the area
abbrev pub Words : Result Made Unmade → Type 0
Words (Ok m) = (m.head.block < 4294967296) × (m.next < 4294967296) × (m.keys < 4294967296) × (m.passed < 4294967296)
Words (Err u) = Unit {0}

-- what is left in the area, and answered, after a change
abbrev pub SettlesBy : List ℕ → List ℕ → Result Made Unmade → Answer → Type 0
SettlesBy w w' (Ok m) r = (r ≡ Done 0) × (w' ≡ set (set (set (set w 1 m.head.block) 2 m.next) 3 m.keys) 4 m.passed)
SettlesBy w w' (Err (Denied k)) r = (r ≡ Refused (refusal_number k)) × (w' ≡ w)
SettlesBy w w' (Err (Halted Dark)) r = (r ≡ Refused 7) × (w' ≡ set w 0 2)
SettlesBy w w' (Err (Halted Dirty)) r = (r ≡ Refused 8) × (w' ≡ w)

pub record Settles (w w' : List ℕ) (change : Result Made Unmade) (r : Answer) : Type 0 where
  pub says : SettlesBy w w' change r

-- ---- THE BODY OF THE CALL, once all is tested
pub record Runs (note : Bool) (key value noise c : List ℕ) (f : ℕ) (w c' : List ℕ) (f' : ℕ) (w' : List ℕ) (r : Answer) : Type 0 where
  pub did : Did (blocks_of c - 2) (16 * blocks_of c - 15) noise c f c' f'
  pub refused : RefusedKept c f w c' f' w' r
  pub right : Kept c f w → 0 < f → mark w ≡ 1
      → Changes (record_of note key value) c f w c' f' w' did.ops
      (due (denial_in note key (map_in c) (blocks_of c)) (done (alter key (record_of note key value).what (map_in c)))) r
