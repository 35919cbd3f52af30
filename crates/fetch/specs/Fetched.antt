-- HOW GET AND COUNT END (document 01, section 3), and what their steps answer. Assumes nothing.
use Rattle.std.specs.Prelude.{List, ◌≡◌, ℕ, ◌≤◌, ◌*◌, length, drop, get_or}
use Rattle.std.proofs.Math.Option.{Option}
use Rattle.ring_log.specs.Answers.{refused, done, gotten, get_answer, count_answer}
use Rattle.ring_log.specs.Answers.{Answer as Says}
use Rattle.ring_log.specs.Log.{pages}
use Rattle.ring_log.specs.Ring.{chip_of, table}
use Rattle.lent.specs.Area.{blocks_of, map_in, lent_of, Kept}
use Rattle.lent.specs.Ended.{Answer, Done, Refused}

-- how get ends: past the value, and whole where it is refused, the buffer is as it was
abbrev pub GotBy : List ℕ → List ℕ → Answer → Type 0
GotBy b b' (Done n) = (n ≤ length b) × (drop n b' ≡ drop n b)
GotBy b b' (Refused k) = b' ≡ b

pub record Got (b b' : List ℕ) (r : Answer) : Type 0 where
  pub ends : GotBy b b' r

-- ---- GET: the value's length, and the buffer with the value at its start; refused, the buffer is as it was
abbrev pub GetsBy : List ℕ → List ℕ → Says (ℕ × List ℕ) → Answer → Type 0
GetsBy b b' (refused k) r = (r ≡ Refused k) × (b' ≡ b)
GetsBy b b' (done v) r = (r ≡ Done v.0) × (b' ≡ v.1)

pub record Gets (b b' : List ℕ) (s : Says (ℕ × List ℕ)) (r : Answer) : Type 0 where
  pub ends : GetsBy b b' s r

-- ---- COUNT: the number of keys
abbrev pub CountsBy : Says ℕ → Answer → Type 0
CountsBy (refused k) r = r ≡ Refused k
CountsBy (done n) r = r ≡ Done n

pub record Counts (s : Says ℕ) (r : Answer) : Type 0 where
  pub ends : CountsBy s r

-- what count answers of any area: the number of keys that stands there
abbrev pub CountedBy : List ℕ → Answer → Type 0
CountedBy w (Done n) = n ≡ get_or w 3 0
CountedBy w (Refused k) = Unit {0}

-- (a record around it, so that antt finds the arguments)
pub record Counted (w : List ℕ) (r : Answer) : Type 0 where
  pub ends : CountedBy w r

-- ---- THE CONTRACTS OF THE CALLS, as the code has them and as histories are made of them
abbrev pub GetEnds : List ℕ → ℕ → List ℕ → List ℕ → List ℕ → List ℕ → Answer → Type 0
GetEnds c f w key b b' r = Kept c f w → Gets b b' (get_answer (lent_of c f w) key b (map_in c)) r

abbrev pub CountEnds : List ℕ → ℕ → List ℕ → Answer → Type 0
CountEnds c f w r = Kept c f w → Counts (count_answer (lent_of c f w) (map_in c)) r

-- what is fetched by the entries ps: where they are those of the chip's table, what is wanted goes to the buffer, o, if there is any
pub record Fetches (c ps : List ℕ) (o : Option (List ℕ)) (b b' : List ℕ) (r : Answer) : Type 0 where
  pub right : 4 ≤ blocks_of c → length c ≡ 4096 * blocks_of c → ps ≡ pages (blocks_of c) (table (blocks_of c) (chip_of c)) → Gets b b' (gotten b o) r
