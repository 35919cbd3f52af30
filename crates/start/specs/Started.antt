-- HOW START ENDS (document 01, section 3). Assumes nothing.
use Rattle.std.specs.Prelude.{List, ◌≢◌, ◌≡◌, ℕ, length, get_or}
use Rattle.ring_log.specs.Answers.{refused, done, start_answer}
use Rattle.ring_log.specs.Answers.{Answer as Says}
use Rattle.ring_log.specs.Map.{Map}
use Rattle.ring_log.specs.Ring.{chip_of}
use Rattle.ring_log.specs.Timely.{Oldest}
use Rattle.lent.specs.Area.{blocks_of, mark, passed, lent_to_start, Holds}
use Rattle.lent.specs.Ended.{Answer, Done, Refused}

-- ---- START, of any bytes, any area: as `start_answer` says. Refused with 5 or 7 it leaves the area as it was, with 8 marked as not started; done, it is
-- ready. The area keeps its length
abbrev pub StartsBy : List ℕ → List ℕ → List ℕ → Says (Map (List ℕ)) → Answer → Type 0
StartsBy c w w' (refused k) r = (r ≡ Refused k) × (k ≢ 8 → w' ≡ w) × (k ≡ 8 → mark w' ≡ 0)
StartsBy c w w' (done m) r = (r ≡ Done 0) × (mark w' ≡ 1) × Holds c w'

-- done, the cursor of cleaning stands at the oldest value
abbrev pub CursorBy : List ℕ → List ℕ → Answer → Type 0
CursorBy c w' (Done k) = Oldest (blocks_of c) (chip_of c) (get_or w' 1 0) (passed w')
CursorBy c w' (Refused k) = Unit {0}

pub record Starts (c w w' : List ℕ) (s : Says (Map (List ℕ))) (r : Answer) : Type 0 where
  pub size : length w' ≡ length w
  pub ends : StartsBy c w w' s r
  pub cursor : CursorBy c w' r

-- ---- THE CONTRACT OF START, as the code has it and as histories are made of it
abbrev pub StartEnds : List ℕ → ℕ → List ℕ → List ℕ → Answer → Type 0
StartEnds c f w w' r = Starts c w w' (start_answer (lent_to_start c f w) (chip_of c)) r
