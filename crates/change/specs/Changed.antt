-- HOW PUT AND DELETE END (document 01, section 3; document 03, section 2): demands one to three of a call that writes a record x. Assumes nothing.
use Rattle.std.specs.Prelude.{Bool, true, false, List, [], ◌≢◌, ◌⊎◌, ◌≡◌, ℕ, ◌≤◌, ◌<◌, ◌*◌, ◌+◌, ◌-◌, ◌/◌, length}
use Rattle.chip.specs.Play.{Op, Did, erases, writes}
use Rattle.record.specs.Record.{Rec, record_of}
use Rattle.ring_log.specs.Answers.{refused, done, put_answer, delete_answer}
use Rattle.ring_log.specs.Answers.{Answer as Says}
use Rattle.ring_log.specs.Call.{resting, begin, Trace, After}
use Rattle.ring_log.specs.Map.{Map}
use Rattle.ring_log.specs.Ring.{chip_of, head, room}
use Rattle.ring_log.specs.Timely.{Timely}
use Rattle.lent.specs.Area.{blocks_of, map_in, mark, passed, lent_of, Holds, Kept, Store}
use Rattle.lent.specs.Ended.{Answer, Done, Refused}

-- A REFUSED CALL LEAVES CHIP, FAULT SCRIPT AND WORK AREA AS THEY WERE: refused with 1, 2, 3, 4 or 5. Of 7 and 8 nothing is said here: the power may have
-- failed under the call, or an area that no start made ready may have been found to lie in the middle of it
abbrev pub RefusedKept : List ℕ → ℕ → List ℕ → List ℕ → ℕ → List ℕ → Answer → Type 0
RefusedKept c f w c' f' w' (Done n) = Unit {0}
RefusedKept c f w c' f' w' (Refused k) = k ≢ 7 → k ≢ 8 → (c' ≡ c) × (f' ≡ f) × (w' ≡ w)

-- what came of it: it came to its end (b is true) or was cut short. At most 8 (B - 2) / 15 + 1 erases and 8 (B - 2) + B writes; where the cursor of cleaning
-- was in time but for 8 (1 + k), and k is at most 5 (`Timely`, crates/ring_log/specs/Timely.antt), at most 1 erase and 10 + k writes. They are the steps of a call,
-- by which the cursor came from p to q; the map is the one after, m, or where it was cut short the one before or the one after; start will succeed on the chip
pub record Came (b : Bool) (x : Rec) (p q : ℕ) (c c' : List ℕ) (ops : List Op) (m : Map (List ℕ)) : Type 0 where
  pub few_erases : erases ops ≤ room (blocks_of c) / 15 + 1
  pub few_writes : writes ops ≤ room (blocks_of c) + blocks_of c
  pub short : (k : ℕ) → k ≤ 5 → Timely (blocks_of c) (chip_of c) (head (blocks_of c) (chip_of c)) p (8 * (1 + k)) → (erases ops ≤ 1) × (writes ops ≤ 10 + k)
  pub trace : Trace (blocks_of c) x (begin p) (resting (chip_of c) (head (blocks_of c) (chip_of c))) (chip_of c') q ops b
  pub map : After b (map_in c) m (map_in c')
  pub store : Store c'

-- refused, nothing happened; else it is done, and the area holds; or the power failed under it
abbrev pub ChangesBy : Rec → List ℕ → ℕ → List ℕ → List ℕ → ℕ → List ℕ → List Op → Says (Map (List ℕ)) → Answer → Type 0
ChangesBy x c f w c' f' w' ops (refused k) r = (r ≡ Refused k) × (c' ≡ c) × (w' ≡ w) × (f' ≡ f) × (ops ≡ [])
ChangesBy x c f w c' f' w' ops (done m) r =
    ((r ≡ Done 0) × (0 < f') × (mark w' ≡ 1) × Holds c' w' × Came true x (passed w) (passed w') c c' ops m)
    ⊎ ((r ≡ Refused 7) × (f' ≡ 0) × (mark w' ≡ 2) × ((q : ℕ) × Came false x (passed w) q c c' ops m))

pub record Changes (x : Rec) (c : List ℕ) (f : ℕ) (w c' : List ℕ) (f' : ℕ) (w' : List ℕ) (ops : List Op) (s : Says (Map (List ℕ))) (r : Answer) : Type 0 where
  pub ends : ChangesBy x c f w c' f' w' ops s r

-- HOW PUT AND DELETE END. Of any bytes, any area: at most B - 2 erases and 16 B - 15 writes (document 01 allows B and 16 B), each of a page that was blank;
-- and refused with 1 to 5 they leave chip, script and area as they were; the area keeps its length. On an area that is as start and the calls since left it,
-- and whenever the power is gone or the mark isn't 1: as the answer s of document 01 says
pub record Ended (x : Rec) (noise c : List ℕ) (f : ℕ) (w c' : List ℕ) (f' : ℕ) (w' : List ℕ) (s : Says (Map (List ℕ))) (r : Answer) : Type 0 where
  pub did : Did (blocks_of c - 2) (16 * blocks_of c - 15) noise c f c' f'
  pub refused : RefusedKept c f w c' f' w' r
  pub size : length w' ≡ length w
  pub right : Kept c f w → Changes x c f w c' f' w' did.ops s r

-- ---- THE CONTRACTS OF THE CALLS, as the code has them and as histories are made of them (crates/histories/specs/History.antt)
abbrev pub PutEnds : List ℕ → List ℕ → ℕ → List ℕ → List ℕ → List ℕ → List ℕ → ℕ → List ℕ → Answer → Type 0
PutEnds noise c f w key value c' f' w' r = Ended (record_of false key value) noise c f w c' f' w' (put_answer (lent_of c f w) key value (map_in c)) r

abbrev pub DeleteEnds : List ℕ → List ℕ → ℕ → List ℕ → List ℕ → List ℕ → ℕ → List ℕ → Answer → Type 0
DeleteEnds noise c f w key c' f' w' r = Ended (record_of true key []) noise c f w c' f' w' (delete_answer (lent_of c f w) key (map_in c)) r
