-- EVERY HISTORY: a blank chip, as a format leaves it, or any chip of this store, as an earlier program may have left it; then calls of the store and failures
-- of the power, in any order and with any arguments, each call but start after a start that succeeded, each start with any fault script and any work area;
-- and between two calls the script may be lent anew, so that each operation may be cut in its own way. The steps are the contracts of the public calls, word
-- for word (`PutEnds` and `DeleteEnds`, `GetEnds` and `CountEnds`, `NextEnds`, `StartEnds`): whatever the code may do, it is one of these. Assumes nothing.
use Rattle.std.specs.Prelude.{◌≡◌, ◌⊎◌, List, [], ◌++◌, Bool, true, false, cond, ◌&&◌, ℕ, suc, ◌+◌, ◌-◌, ◌*◌, ◌<◌, eqb, leb, length, get_or}
use Rattle.std.proofs.Math.Option.{some}
use Rattle.chip.specs.Play.{Op}
use Rattle.ring_log.specs.Key.{Key}
use Rattle.ring_log.specs.Map.{Map, lookup}
use Rattle.ring_log.specs.Ring.{chip_of}
use Rattle.ring_log.specs.Answers.{Lent, refused, done, put_answer, get_answer, delete_answer, count_answer}
use Rattle.ring_log.specs.Answers.{Answer as Says}
use Rattle.lent.specs.Area.{blocks_of, Sized, map_in, passed, Store}
use Rattle.fetch.specs.Fetched.{Gets, Counts, GetEnds, CountEnds}
use Rattle.change.specs.Changed.{PutEnds, DeleteEnds}
use Rattle.start.specs.Started.{StartEnds}
use Rattle.lent.specs.Ended.{Answer, Done, Refused}
use Rattle.keys.specs.Next.{next_answer, NextEnds}

-- the store is off: no start has succeeded since the beginning or since memory was lost with the power; or it is on, with a fault script (its number and its
-- noise) and a work area. Where the number is 0 the power has gone since the start
pub data Phase : Type 0 where
  off : Phase
  on : (noise : List ℕ) (f : ℕ) (w : List ℕ) → Phase

-- what a start leaves: done, the store is on, with what was lent to it; refused with 5 or 7, which leaves every area as it was, what was on before is on
-- still; with 8, off
abbrev pub started : Phase → List ℕ → ℕ → List ℕ → Answer → Phase
started s noise f w (Done k) = on noise f w
started s noise f w (Refused k) = cond (eqb k 8) off s

-- 1 where the power failed under a call, or between two: it was there before, and is gone after it
abbrev pub failed : ℕ → ℕ → ℕ
failed f f' = cond (leb 1 f && eqb f' 0) 1 0

-- 1 for a put or a delete that was accepted, or cut short
abbrev pub counted : ℕ → ℕ → Answer → ℕ
counted f f' (Done k) = 1
counted f f' (Refused k) = failed f f'

-- A HISTORY of a chip of B blocks: the phase and the chip that it leaves, n puts and deletes that were accepted or cut short, q failures of the power, and
-- the operations that were begun, in order
pub data History (B : ℕ) : Phase → List ℕ → ℕ → ℕ → List Op → Type 0 where
  begin : (c : List ℕ) → length c ≡ 4096 * B → ((p : ℕ) → p < 16 * B → (chip_of c).full p ≡ false) → History B off c 0 0 []
  found : (c : List ℕ) → length c ≡ 4096 * B → Store c → History B off c 0 0 []
  -- the power fails between two calls, and memory is lost
  dark : {s : Phase} {c : List ℕ} {n q : ℕ} {ops : List Op} → History B s c n q ops → History B off c n (suc q) ops
  -- another script is lent between two calls. One at 0: the power has failed, and calls may follow. Power that has gone comes back by a start alone
  lend : {noise : List ℕ} {f : ℕ} {w c : List ℕ} {n q : ℕ} {ops : List Op} (noise' : List ℕ) (f' : ℕ) → (f ≡ 0 → f' ≡ 0)
      → History B (on noise f w) c n q ops → History B (on noise' f' w) c n (q + failed f f') ops
  start : {s : Phase} {c : List ℕ} {n q : ℕ} {ops : List Op} (noise : List ℕ) (f : ℕ) (w w' : List ℕ) (r : Answer) → StartEnds c f w w' r
      → History B s c n q ops → History B (started s noise f w' r) c n q ops
  put : {noise : List ℕ} {f : ℕ} {w c : List ℕ} {n q : ℕ} {ops : List Op} (key value c' : List ℕ) (f' : ℕ) (w' : List ℕ) (r : Answer) (e : PutEnds noise c f w key value c' f' w' r)
      → History B (on noise f w) c n q ops → History B (on noise f' w') c' (n + counted f f' r) (q + failed f f') (ops ++ e.did.ops)
  delete : {noise : List ℕ} {f : ℕ} {w c : List ℕ} {n q : ℕ} {ops : List Op} (key c' : List ℕ) (f' : ℕ) (w' : List ℕ) (r : Answer) (e : DeleteEnds noise c f w key c' f' w' r)
      → History B (on noise f w) c n q ops → History B (on noise f' w') c' (n + counted f f' r) (q + failed f f') (ops ++ e.did.ops)
  get : {noise : List ℕ} {f : ℕ} {w c : List ℕ} {n q : ℕ} {ops : List Op} (key b b' : List ℕ) (r : Answer) → GetEnds c f w key b b' r
      → History B (on noise f w) c n q ops → History B (on noise f w) c n q ops
  count : {noise : List ℕ} {f : ℕ} {w c : List ℕ} {n q : ℕ} {ops : List Op} (r : Answer) → CountEnds c f w r
      → History B (on noise f w) c n q ops → History B (on noise f w) c n q ops
  next : {noise : List ℕ} {f : ℕ} {w c : List ℕ} {n q : ℕ} {ops : List Op} (key b b' : List ℕ) (r : Answer) → NextEnds c f w key b b' r
      → History B (on noise f w) c n q ops → History B (on noise f w) c n q ops

-- it began with a blank chip, so that n, q and the operations are those of the chip's whole life: what is said of wear is said of these
abbrev pub Fresh : {B : ℕ} {s : Phase} {c : List ℕ} {n q : ℕ} {ops : List Op} → History B s c n q ops → Type 0
Fresh (begin c z f) = Unit {0}
Fresh (found c z s) = ⊥
Fresh (dark h) = Fresh h
Fresh (lend noise' f' z h) = Fresh h
Fresh (start noise f w w' r e h) = Fresh h
Fresh (put key value c' f' w' r e h) = Fresh h
Fresh (delete key c' f' w' r e h) = Fresh h
Fresh (get key b b' r e h) = Fresh h
Fresh (count r e h) = Fresh h
Fresh (next key b b' r e h) = Fresh h

-- ---- HOW LATE CLEANING IS

-- how far the cursor has come, with the place that the last record made
abbrev pub reached : List ℕ → ℕ
reached w = passed w + 1

-- THE CURSOR'S ZONE IS CLEAN, as the area says after a call: the first next + (B - 2) places of the log are passed
abbrev pub clean : List ℕ → List ℕ → Bool
clean c w = leb (get_or w 2 0 + (blocks_of c - 2)) (reached w)

-- after a call that was done and left the zone clean, none; else n
abbrev pub late_after : List ℕ → List ℕ → Answer → ℕ → ℕ
late_after c w (Done k) n = cond (clean c w) 0 n
late_after c w (Refused k) n = n

-- HOW OFTEN THE POWER HAS FAILED SINCE THE ZONE WAS LAST CLEAN: after a put or a delete that was done, or on the blank chip. Of a chip that was found nothing
-- is known: 6, more than the theorem speaks of
abbrev pub late : {B : ℕ} {s : Phase} {c : List ℕ} {n q : ℕ} {ops : List Op} → History B s c n q ops → ℕ
late (begin c z f) = 0
late (found c z s) = 6
late (dark h) = suc (late h)
late (lend {noise} {f} noise' f' z h) = late h + failed f f'
late (start noise f w w' r e h) = late h
late (put {noise} {f} key value c' f' w' r e h) = late_after c' w' r (late h + failed f f')
late (delete {noise} {f} key c' f' w' r e h) = late_after c' w' r (late h + failed f f')
late (get key b b' r e h) = late h
late (count r e h) = late h
late (next key b b' r e h) = late h

-- ---- WHAT THE DOCUMENTS SAY OF A HISTORY, by a plain map

-- what is lent to a call while the store is on, with a script of the number f: a start has succeeded, and the power has gone exactly where f is 0
abbrev pub lent_on : List ℕ → ℕ → List ℕ → Lent
lent_on c f w = record { chip = length c; work = length w; dark = eqb f 0; ready = true }

-- a put or a delete whose answer, by document 01, is s, on the map m: refused with its number, and the map is the same; done, and the map is the one of
-- after; or the power failed under it, it is refused with 7, and the map m' is the one before or the one after
abbrev pub ToldBy : Says (Map (List ℕ)) → ℕ → Answer → Map (List ℕ) → Map (List ℕ) → Type 0
ToldBy (refused k) f' r m m' = (r ≡ Refused k) × (m' ≡ m)
ToldBy (done k) f' r m m' = ((r ≡ Done 0) × (m' ≡ k)) ⊎ ((r ≡ Refused 7) × (f' ≡ 0) × ((m' ≡ m) ⊎ (m' ≡ k)))

-- m may be the map after the history, and every answer in it was document 01's. At first it is empty, or that of the chip as it was found; a start, which is
-- done wherever the sizes are allowed and there is power, and a failure of the power leave it as it is, so that what a cut call left is settled, and stays
abbrev pub Tells : {B : ℕ} {s : Phase} {c : List ℕ} {n q : ℕ} {ops : List Op} → History B s c n q ops → Map (List ℕ) → Type 0
Tells (begin c z f) m = m ≡ []
Tells (found c z s) m = m ≡ map_in c
Tells (dark h) m = Tells h m
Tells (lend noise' f' z h) m = Tells h m
Tells (start {s} {c} noise f w w' r e h) m = Tells h m × (Sized c w → 0 < f → r ≡ Done 0)
Tells (put {noise} {f} {w} {c} key value c' f' w' r e h) m = (k : Map (List ℕ)) × Tells h k × ToldBy (put_answer (lent_on c f w) key value k) f' r k m
Tells (delete {noise} {f} {w} {c} key c' f' w' r e h) m = (k : Map (List ℕ)) × Tells h k × ToldBy (delete_answer (lent_on c f w) key k) f' r k m
Tells (get {noise} {f} {w} {c} key b b' r e h) m = Tells h m × Gets b b' (get_answer (lent_on c f w) key b m) r
Tells (count {noise} {f} {w} {c} r e h) m = Tells h m × Counts (count_answer (lent_on c f w) m) r
Tells (next {noise} {f} {w} {c} key b b' r e h) m = Tells h m × Gets b b' (next_answer (lent_on c f w) key b m) r

-- A VALUE THAT WAS PUT: k was given the value v by a put of the history that was accepted, or cut short; or it had it when the chip was found
abbrev pub WasPut : {B : ℕ} {s : Phase} {c : List ℕ} {n q : ℕ} {ops : List Op} → History B s c n q ops → Key → List ℕ → Type 0
WasPut (begin c z f) k v = ⊥
WasPut (found c z s) k v = lookup k (map_in c) ≡ some v
WasPut (dark h) k v = WasPut h k v
WasPut (lend noise' f' z h) k v = WasPut h k v
WasPut (start noise f w w' r e h) k v = WasPut h k v
WasPut (put {noise} {f} key value c' f' w' r e h) k v = ((key ≡ k) × (value ≡ v) × (counted f f' r ≡ 1)) ⊎ WasPut h k v
WasPut (delete key c' f' w' r e h) k v = WasPut h k v
WasPut (get key b b' r e h) k v = WasPut h k v
WasPut (count r e h) k v = WasPut h k v
WasPut (next key b b' r e h) k v = WasPut h k v
