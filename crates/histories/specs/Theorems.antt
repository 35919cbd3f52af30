-- WHAT IS PROVED OF EVERY HISTORY of a chip of B blocks: each field is a theorem. They are proved, for every B from 4 on, in proofs/Theorems.antt; those on
-- walks over the keys are in specs/Walks.antt. Assumes nothing.
use Rattle.std.specs.Prelude.{◌≡◌, ◌≢◌, ◌⊎◌, List, [], true, ℕ, ◌+◌, ◌*◌, ◌/◌, ◌≤◌, ◌<◌, length, take}
use Rattle.std.proofs.Math.Option.{some}
use Rattle.chip.specs.Play.{Op, erases, writes, Did}
use Rattle.ring_log.specs.Key.{Key}
use Rattle.ring_log.specs.Map.{lookup}
use Rattle.ring_log.specs.Answers.{printed}
use Rattle.ring_log.specs.Wear.{erases_of}
use Rattle.lent.specs.Area.{blocks_of, Sized, map_in, mark, Holds}
use Rattle.change.specs.Changed.{PutEnds, DeleteEnds}
use Rattle.fetch.specs.Fetched.{GetEnds, CountEnds}
use Rattle.start.specs.Started.{StartEnds}
use Rattle.format.specs.Formatted.{FormatEnds}
use Rattle.lent.specs.Ended.{Answer, Done, Refused}
use Rattle.keys.specs.Next.{NextEnds}
use Rattle.histories.specs.History.{Phase, off, on, History, Fresh, late, Tells, WasPut}

-- what a call may answer while the store is on. With power: not that the sizes are wrong or that it isn't ready, and that the power has gone only where it
-- went under this call. Where the power has gone since the start: that, and nothing else
abbrev pub OnAnswers : ℕ → ℕ → Answer → Type 0
OnAnswers f f' r = (0 < f → (r ≢ Refused 5) × (r ≢ Refused 8) × (r ≡ Refused 7 → f' ≡ 0)) × (f ≡ 0 → r ≡ Refused 7)

-- ---- AFTER A HISTORY THAT LEFT THE CHIP c, n and q being counted, with the operations ops
pub record Ever (B : ℕ) {s : Phase} {c : List ℕ} {n q : ℕ} {ops : List Op} (h : History B s c n q ops) : Type 0 where
  -- RIGHT, AND CRASH-PROOF: the chip's map is one that the documents allow, and every answer was document 01's
  pub right : Tells h (map_in c)
  -- START SUCCEEDS where the sizes are allowed and there is power, and leaves an area that says what is true of the chip
  pub start_done : (f : ℕ) (w w' : List ℕ) (r : Answer) → Sized c w → 0 < f → StartEnds c f w w' r → (r ≡ Done 0) × (mark w' ≡ 1) × Holds c w'
  -- NO MIXED VALUE: each value of the map was put
  pub was_put : (k : Key) (v : List ℕ) → lookup k (map_in c) ≡ some v → WasPut h k v
  -- WEAR IS EVEN, of a chip that began blank: the erases of any two blocks differ by at most 1 + q
  pub wear_even : Fresh h → (i j : ℕ) → i < B → j < B → erases_of i ops ≤ erases_of j ops + (1 + q)
  -- AND FEW: all erases together are at most n / 6 + q; document 03 asks for n / 4 + 2 q + B
  pub wear_few : Fresh h → erases ops ≤ n / 6 + q
  pub wear_asked : Fresh h → erases ops ≤ n / 4 + 2 * q + B
  -- EACH KEY CAN BE PRINTED, of a chip that began blank
  pub keys_printed : Fresh h → (k : Key) (v : List ℕ) → lookup k (map_in c) ≡ some v → printed k ≡ true

-- ---- A CALL WHILE THE STORE IS ON
pub record Calls (B : ℕ) {noise : List ℕ} {f : ℕ} {w c : List ℕ} {n q : ℕ} {ops : List Op} (h : History B (on noise f w) c n q ops) : Type 0 where
  -- NO CALL ANSWERS 5 OR 8, with power; without it every call answers 7
  pub put_on : (key value c' : List ℕ) (f' : ℕ) (w' : List ℕ) (r : Answer) → PutEnds noise c f w key value c' f' w' r → OnAnswers f f' r
  pub delete_on : (key c' : List ℕ) (f' : ℕ) (w' : List ℕ) (r : Answer) → DeleteEnds noise c f w key c' f' w' r → OnAnswers f f' r
  pub get_on : (key b b' : List ℕ) (r : Answer) → GetEnds c f w key b b' r → OnAnswers f f r
  pub count_on : (r : Answer) → CountEnds c f w r → OnAnswers f f r
  pub next_on : (key b b' : List ℕ) (r : Answer) → NextEnds c f w key b b' r → OnAnswers f f r
  -- NO CALL IS LONG: a put or a delete begins at most 1 erase and 10 page writes, and one write more for each failure of the power since the zone was last
  -- clean, as long as these are at most five
  pub put_short : late h ≤ 5 → (key value c' : List ℕ) (f' : ℕ) (w' : List ℕ) (r : Answer) (e : PutEnds noise c f w key value c' f' w' r)
      → (erases e.did.ops ≤ 1) × (writes e.did.ops ≤ 10 + late h)
  pub delete_short : late h ≤ 5 → (key c' : List ℕ) (f' : ℕ) (w' : List ℕ) (r : Answer) (e : DeleteEnds noise c f w key c' f' w' r)
      → (erases e.did.ops ≤ 1) × (writes e.did.ops ≤ 10 + late h)
  -- NUMBERS DON'T RUN OUT: 9 is never answered, however many pages have been written
  pub put_never_9 : (key value c' : List ℕ) (f' : ℕ) (w' : List ℕ) (r : Answer) → PutEnds noise c f w key value c' f' w' r → r ≢ Refused 9
  pub delete_never_9 : (key c' : List ℕ) (f' : ℕ) (w' : List ℕ) (r : Answer) → DeleteEnds noise c f w key c' f' w' r → r ≢ Refused 9
  -- WHAT GET HANDS OUT WAS PUT: the first i bytes of the buffer, where it answers i
  pub got_was_put : (key b b' : List ℕ) (i : ℕ) → GetEnds c f w key b b' (Done i) → WasPut h key (take i b')

-- ---- FORMAT, of any chip
pub record Formatted (B : ℕ) : Type 0 where
  -- DONE, A HISTORY BEGINS: the chip is blank, and the power is there
  pub format_begins : (noise c : List ℕ) (f : ℕ) (w c' : List ℕ) (f' : ℕ) (w' : List ℕ) (i : ℕ) → length c ≡ 4096 * B → Did (blocks_of c) 0 noise c f c' f'
      → FormatEnds c f w c' f' w' (Done i) → History B off c' 0 0 [] × (0 < f')
  -- AFTER ANY START THAT HAD POWER, done or refused with 8, it can be called again: it is done, or the power fails under it
  pub format_again : (c : List ℕ) (f : ℕ) (w w' : List ℕ) (r : Answer) → Sized c w → 0 < f → StartEnds c f w w' r
      → (g : ℕ) (c'' : List ℕ) (g' : ℕ) (w'' : List ℕ) (r' : Answer) → 0 < g → FormatEnds c g w' c'' g' w'' r' → (r' ≡ Done 0) ⊎ ((r' ≡ Refused 7) × (g' ≡ 0))
