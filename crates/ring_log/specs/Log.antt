-- The log: what the pages say, in the order in which it was written, and the map that it stands for. Nothing here mentions code. Assumes nothing.
use Rattle.std.proofs.Math.Logic.{ite}
use Rattle.std.specs.Prelude.{List, [], ◌∷◌, ◌++◌, ℕ, zero, suc, ◌+◌, ◌-◌, ◌*◌, ◌/◌, ◌%◌}
use Rattle.std.proofs.Math.Option.{Option, none, some}
use Rattle.record.specs.Record.{Rec}
use Rattle.ring_log.specs.Key.{Key, key≟}
use Rattle.ring_log.specs.Map.{Map, alter, map_o, map_v}

-- an entry of a log: a key, and its new value, or none where it was deleted
abbrev pub Entry : Type 0 → Type 0
Entry A = Key × Option A

module _ {A : Type 0} where
  -- the map of a log, oldest entry first, over the map m
  abbrev pub replay : List (Entry A) → Map A → Map A
  replay [] m = m
  replay (r ∷ l) m = replay l (alter r.0 r.1 m)

  -- what the newest entry of k says, if there is one
  abbrev pub or_else : Option A → Option A → Option A
  or_else none y = y
  or_else (some x) y = some x

abbrev pub newest : {A : Type 0} → Key → List (Entry A) → Option (Option A)
newest k [] = none
newest k (r ∷ l) = or_else (newest k l) (ite (key≟ k r.0) (some r.1) none)

-- ---- PLACES. The places of the ring are numbered in one line: s is place s % 15 of the block number s / 15, and the block number x is the chip's block x % B

-- the page of place s
unfoldable pub page_of : ℕ → ℕ → ℕ
page_of B s = 16 * (s / 15 % B) + s % 15

-- what each page says
abbrev pub Recs : Type 0
Recs = ℕ → Option Rec

-- a value with the place where it stands
abbrev pub Placed : Type 0
Placed = ℕ × List ℕ

-- the value v at place s
abbrev pub placed : ℕ → List ℕ → Placed
placed s v = (s, v)

-- what place s adds to the log
abbrev pub entry : ℕ → Option Rec → List (Entry Placed)
entry s none = []
entry s (some r) = (r.key, map_o (placed s) r.what) ∷ []

-- THE LOG of the n places from s on
unfoldable pub log_from : ℕ → Recs → ℕ → ℕ → List (Entry Placed)
log_from B recs s zero = []
log_from B recs s (suc n) = entry s (recs (page_of B s)) ++ log_from B recs (suc s) n

-- the first place of the oldest block, where the head is block number e: the block after it is the spare, and the one after that the oldest
abbrev pub oldest : ℕ → ℕ → ℕ
oldest B e = 15 * (e + 2 - B)

-- THE CURSOR OF CLEANING counts the places of the log that records may stand at: U in each block, from place FIRST on. Its log place p, where the head is block
-- number e, is the place
abbrev pub FIRST : ℕ
FIRST = 0

abbrev pub U : ℕ
U = 15

abbrev pub log_place : ℕ → ℕ → ℕ → ℕ
log_place B e p = oldest B e + 15 * ((p - FIRST) / U) + (FIRST + (p - FIRST) % U)

-- the map of the places from the oldest up to s, each value with its place
unfoldable pub run : ℕ → Recs → ℕ → ℕ → Map Placed
run B recs e s = replay (log_from B recs (oldest B e) (s - oldest B e)) []

-- the values alone
abbrev pub bytes : Map Placed → Map (List ℕ)
bytes m = map_v (λ (a : Placed). a.1) m

-- THE INDEX: the page of each row, in the order of the keys
abbrev pub pages : ℕ → Map Placed → List ℕ
pages B [] = []
pages B (p ∷ m) = page_of B p.1.0 ∷ pages B m
