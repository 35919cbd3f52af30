-- What start's replay answers, page by page and block by block; and what its last step leaves. Assumes nothing.
use Rattle.std.specs.Prelude.{List, ◌≡◌, ℕ, suc, ◌+◌, ◌-◌, ◌*◌, ◌%◌, ◌≤◌, ◌<◌, length, take, drop, get_or}
use Rattle.record.specs.Record.{rec_at}
use Rattle.ring_log.specs.Log.{pages, oldest, run, page_of, U}
use Rattle.ring_log.specs.Ring.{chip_of, table_at, next, room}
use Rattle.lent.specs.Area.{blocks_of, mark, passed}
use Rattle.start.specs.Least.{least_of}
use Rattle.lent.specs.Ended.{Answer, Done, Refused}

-- what page p says is replayed into an index: one that holds the pages of the places before s then holds those of the places up to s, whose page is p
pub record Replays (c : List ℕ) (p : ℕ) (ps ps' : List ℕ) : Type 0 where
  pub one : (B e s : ℕ) → 4 ≤ B → length c ≡ 4096 * B → oldest B e ≤ s → p ≡ page_of B s → ps ≡ pages B (run B (rec_at c) e s) → ps' ≡ pages B (run B (rec_at c) e (suc s))

-- the same of the first j places of block x, which is block number y of the log
pub record ReplaysTo (c : List ℕ) (x j : ℕ) (ps ps' : List ℕ) : Type 0 where
  pub one : (B e y : ℕ) → 4 ≤ B → length c ≡ 4096 * B → oldest B e ≤ 15 * y → x ≡ y % B → ps ≡ pages B (run B (rec_at c) e (15 * y))
      → ps' ≡ pages B (run B (rec_at c) e (15 * y + j))

-- the area is ready for the head h: its words say the head, the next place and the number of keys, the index has the rows of the table, and the cursor stands
-- where it begins
pub record ReadyFor (c : List ℕ) (h : ℕ) (w : List ℕ) : Type 0 where
  pub marked : mark w ≡ 1
  pub head : get_or w 1 0 ≡ h
  pub place : get_or w 2 0 ≡ next (chip_of c) h
  pub few : get_or w 3 0 ≤ room (blocks_of c)
  pub rows : take (get_or w 3 0) (drop 16 w) ≡ pages (blocks_of c) (table_at (blocks_of c) (chip_of c) h)
  pub count : length (table_at (blocks_of c) (chip_of c) h) ≡ get_or w 3 0
  pub cursor : passed w ≡ least_of ((h + 2) % blocks_of c) (blocks_of c) (U * (blocks_of c - 2) + next (chip_of c) h)
      (pages (blocks_of c) (table_at (blocks_of c) (chip_of c) h)) (get_or w 3 0)

-- what the last step of start leaves: an area ready for the head h; or there are too many keys
abbrev pub ReadiesBy : List ℕ → ℕ → List ℕ → Answer → Type 0
ReadiesBy c h w (Done n) = (n ≡ 0) × ReadyFor c h w
ReadiesBy c h w (Refused k) = (k ≡ 8) × (mark w ≡ 0) × (room (blocks_of c) < length (table_at (blocks_of c) (chip_of c) h))

pub record Readies (c : List ℕ) (h : ℕ) (w : List ℕ) (r : Answer) : Type 0 where
  pub ends : ReadiesBy c h w r
