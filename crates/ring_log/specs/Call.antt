-- What an operation of the store changes of a chip as the ring sees it, whole and cut short; and the operations of a put or a delete, in order.
-- Nothing here mentions code. Assumes nothing.
use Rattle.std.specs.Prelude.{◌≡◌, ◌≢◌, ◌⊎◌, List, [], ◌∷◌, ◌++◌, Bool, true, false, ℕ, suc, ◌+◌, ◌-◌, ◌*◌, ◌/◌, ◌%◌, ◌≤◌, ◌<◌}
use Rattle.std.proofs.Math.Option.{Option, none, some}
use Rattle.chip.specs.Play.{Op, erase, write}
use Rattle.record.specs.Record.{Rec}
use Rattle.ring_log.specs.Map.{Map, lookup}
use Rattle.ring_log.specs.Log.{Placed, page_of, oldest, run, FIRST, log_place}
use Rattle.ring_log.specs.Ring.{Chip, sealed, spare, table, next}

-- ---- ONE OPERATION

-- page p alone changed
pub record Page (p : ℕ) (c c' : Chip) : Type 0 where
  pub recs : (q : ℕ) → q ≢ p → c'.recs q ≡ c.recs q
  pub full : (q : ℕ) → q ≢ p → c'.full q ≡ c.full q

-- block b alone changed: all that is known of an erase that was cut short, whatever it left there
pub record Block (b : ℕ) (c c' : Chip) : Type 0 where
  pub recs : (q : ℕ) → q / 16 ≢ b → c'.recs q ≡ c.recs q
  pub full : (q : ℕ) → q / 16 ≢ b → c'.full q ≡ c.full q

-- an erase of block b
pub record Erased (b : ℕ) (c c' : Chip) : Type 0 where
  pub block : Block b c c'
  pub blank : (p : ℕ) → p / 16 ≡ b → c'.full p ≡ false

-- a write of page p with a page that says o (a seal says nothing); and one that was cut short: it says that or nothing, and may read as blank
pub record Wrote (p : ℕ) (o : Option Rec) (c c' : Chip) : Type 0 where
  pub page : Page p c c'
  pub says : c'.recs p ≡ o
  pub fills : c'.full p ≡ true

pub record CutWrote (p : ℕ) (o : Option Rec) (c c' : Chip) : Type 0 where
  pub page : Page p c c'
  pub says : (c'.recs p ≡ o) ⊎ (c'.recs p ≡ none)

-- ---- A CALL

-- between two openings, with the head h; or in the middle of one: it began on the chip c₀, place t of the oldest block is looked at next, place s of the
-- spare written next
pub data State : Type 0 where
  resting : (c : Chip) (h : ℕ) → State
  copying : (h : ℕ) (c₀ c : Chip) (t s : ℕ) → State

-- the chip of a state
abbrev pub chip_at : State → Chip
chip_at (resting c h) = c
chip_at (copying h c₀ c t s) = c

-- THE CURSOR OF A CALL: the log place that it looks at next, how many looks are left to it, and how many pages the head may have for a value to be carried
-- there: 15, and after an opening 14, so that the record has a place
pub record Cursor : Type 0 where
  pub at : ℕ
  pub left : ℕ
  pub top : ℕ

abbrev pub cursor : ℕ → ℕ → ℕ → Cursor
cursor p l t = record { at = p; left = l; top = t }

-- A CALL BEGINS with the cursor where the last one left it, and eight looks
abbrev pub begin : ℕ → Cursor
begin p = cursor p 8 15

-- a place was looked at
abbrev pub on : Cursor → Cursor
on u = record { at = suc u.at; left = u.left - 1; top = u.top }

-- the next block was opened: the oldest has left the log, and all its places were looked at
abbrev pub back : Cursor → Cursor
back u = record { at = u.at - 15 + FIRST; left = u.left - (15 - u.at); top = 14 }

-- where the head has n pages: there is a look left, the head has room, and the cursor is in its zone
pub record Looks (B : ℕ) (u : Cursor) (n : ℕ) : Type 0 where
  pub some_left : 0 < u.left
  pub room : n < u.top
  pub zone : u.at < n + (B - 2)

-- the looks are made, or the zone is clean, or only the record's place is left
abbrev pub Swept : ℕ → Cursor → ℕ → Type 0
Swept B u n = (u.left ≡ 0) ⊎ ((n + (B - 2) ≤ u.at) ⊎ (u.top ≤ n))

-- place t holds the live value r: the row of its key, in the table, stands at this very place
pub record Live (B : ℕ) (c : Chip) (t : ℕ) (r : Rec) (a : Placed) : Type 0 where
  pub says : c.recs (page_of B t) ≡ some r
  pub row : lookup r.key (table B c) ≡ some a
  pub stands : a.0 ≡ t

-- it holds none
abbrev pub Dead : ℕ → Chip → ℕ → Type 0
Dead B c t = (r : Rec) (a : Placed) → c.recs (page_of B t) ≡ some r → lookup r.key (table B c) ≡ some a → a.0 ≢ t

-- A CALL THAT WRITES THE RECORD x, from here on: its cursor; the chip that it leaves, and where the cursor stood then; the operations that it began, and
-- whether it came to its end. Where it did not, the power went between two operations, or during the last one
pub data Trace (B : ℕ) (x : Rec) : Cursor → State → Chip → ℕ → List Op → Bool → Type 0 where
  -- the power goes between two operations
  stop : (u : Cursor) (st : State) → Trace B x u st (chip_at st) u.at [] false
  -- CLEANING BY THE WAY: the place at the cursor holds no live value, and is passed; or it does, and the value is carried to the head
  pass : (u : Cursor) (c c' : Chip) (h p : ℕ) (l : List Op) (b : Bool) → next c h < 15 → Looks B u (next c h) → Dead B c (log_place B (h + B) u.at)
      → Trace B x (on u) (resting c h) c' p l b → Trace B x u (resting c h) c' p l b
  carry : (u : Cursor) (c d c' : Chip) (h p : ℕ) (new : List ℕ) (l : List Op) (b : Bool) (r : Rec) (a : Placed) → next c h < 15 → Looks B u (next c h)
      → Live B c (log_place B (h + B) u.at) r a → Wrote (16 * h + next c h) (some r) c d
      → Trace B x (on u) (resting d h) c' p l b → Trace B x u (resting c h) c' p (write (16 * h + next c h) new ∷ l) b
  carry_cut : (u : Cursor) (c c' : Chip) (h : ℕ) (new : List ℕ) (r : Rec) (a : Placed) → next c h < 15 → Looks B u (next c h)
      → Live B c (log_place B (h + B) u.at) r a → CutWrote (16 * h + next c h) (some r) c c'
      → Trace B x u (resting c h) c' u.at (write (16 * h + next c h) new ∷ []) false
  -- the head has room, and no place is left to look at: x is appended
  append : (u : Cursor) (c c' : Chip) (h : ℕ) (new : List ℕ) → next c h < 15 → Swept B u (next c h) → Wrote (16 * h + next c h) (some x) c c'
      → Trace B x u (resting c h) c' u.at (write (16 * h + next c h) new ∷ []) true
  append_cut : (u : Cursor) (c c' : Chip) (h : ℕ) (new : List ℕ) → next c h < 15 → Swept B u (next c h) → CutWrote (16 * h + next c h) (some x) c c'
      → Trace B x u (resting c h) c' u.at (write (16 * h + next c h) new ∷ []) false
  -- the head is full: the next block is opened. The spare is erased if the oldest block is sealed; in the first round it is blank, and is not
  erasing : (u : Cursor) (c d c' : Chip) (h p : ℕ) (l : List Op) (b : Bool) → next c h ≡ 15
      → sealed c ((h + 2) % B) ≡ true
      → Erased (spare B h) c d → Trace B x u (copying h c d (oldest B (h + B)) (15 * (h + B) + 15)) c' p l b
      → Trace B x u (resting c h) c' p (erase (spare B h) ∷ l) b
  erase_cut : (u : Cursor) (c c' : Chip) (h : ℕ) → next c h ≡ 15 → sealed c ((h + 2) % B) ≡ true → Block (spare B h) c c'
      → Trace B x u (resting c h) c' u.at (erase (spare B h) ∷ []) false
  first : (u : Cursor) (c c' : Chip) (h p : ℕ) (l : List Op) (b : Bool) → next c h ≡ 15 → sealed c ((h + 2) % B) ≡ false
      → Trace B x u (copying h c c (oldest B (h + B)) (15 * (h + B) + 15)) c' p l b → Trace B x u (resting c h) c' p l b
  -- a place of the oldest block: no record, or one that isn't live, since the row of its key stands elsewhere; or a live value, whose page is copied
  skip : (u : Cursor) (h : ℕ) (c₀ c c' : Chip) (t s p : ℕ) (l : List Op) (b : Bool) → t < oldest B (h + B) + 15
      → ((r : Rec) (a : Placed) → c.recs (page_of B t) ≡ some r → lookup r.key (run B c.recs (h + B) s) ≡ some a → a.0 ≢ t)
      → Trace B x u (copying h c₀ c (suc t) s) c' p l b → Trace B x u (copying h c₀ c t s) c' p l b
  copy : (u : Cursor) (h : ℕ) (c₀ c d c' : Chip) (t s p : ℕ) (new : List ℕ) (l : List Op) (b : Bool) (r : Rec) (a : Placed) → t < oldest B (h + B) + 15
      → c.recs (page_of B t) ≡ some r → lookup r.key (run B c.recs (h + B) s) ≡ some a → a.0 ≡ t → Wrote (page_of B s) (some r) c d
      → Trace B x u (copying h c₀ d (suc t) (suc s)) c' p l b → Trace B x u (copying h c₀ c t s) c' p (write (page_of B s) new ∷ l) b
  copy_cut : (u : Cursor) (h : ℕ) (c₀ c c' : Chip) (t s : ℕ) (new : List ℕ) (r : Rec) (a : Placed) → t < oldest B (h + B) + 15 → c.recs (page_of B t) ≡ some r
      → lookup r.key (run B c.recs (h + B) s) ≡ some a → a.0 ≡ t → CutWrote (page_of B s) (some r) c c'
      → Trace B x u (copying h c₀ c t s) c' u.at (write (page_of B s) new ∷ []) false
  -- all its places are done: the head is sealed, and the spare is the head
  seal : (u : Cursor) (h : ℕ) (c₀ c d c' : Chip) (s p : ℕ) (new : List ℕ) (l : List Op) (b : Bool) → Wrote (16 * h + 15) none c d
      → Trace B x (back u) (resting d (spare B h)) c' p l b → Trace B x u (copying h c₀ c (oldest B (h + B) + 15) s) c' p (write (16 * h + 15) new ∷ l) b
  seal_cut : (u : Cursor) (h : ℕ) (c₀ c c' : Chip) (s : ℕ) (new : List ℕ) → CutWrote (16 * h + 15) none c c'
      → Trace B x u (copying h c₀ c (oldest B (h + B) + 15) s) c' u.at (write (16 * h + 15) new ∷ []) false

-- THE OPERATIONS l LEAD from one state to another, and the cursor from u to v: whatever a call does from there on, it does from here on after them
pub record Goes (B : ℕ) (u v : Cursor) (st st' : State) (l : List Op) : Type 0 where
  pub then : (x : Rec) (c' : Chip) (p : ℕ) (m : List Op) (b : Bool) → Trace B x v st' c' p m b → Trace B x u st c' p (l ++ m) b

-- after the operations l the power went, and left the chip c', whatever record the call was to write
pub record Ends (B : ℕ) (u : Cursor) (st : State) (c' : Chip) (l : List Op) : Type 0 where
  pub stood : ℕ
  pub short : (x : Rec) → Trace B x u st c' stood l false

-- the same, wherever the cursor stands, and it stays there; or a block was opened, and it goes back
pub record Leads (B : ℕ) (st st' : State) (l : List Op) : Type 0 where
  pub then : (u : Cursor) → Goes B u u st st' l

pub record LeadsBack (B : ℕ) (st st' : State) (l : List Op) : Type 0 where
  pub then : (u : Cursor) → Goes B u (back u) st st' l

pub record Cut (B : ℕ) (st : State) (c' : Chip) (l : List Op) : Type 0 where
  pub short : (u : Cursor) → Ends B u st c' l

-- the map that a call may leave: where it came to its end that of after, where it did not that of before or that of after
abbrev pub After : Bool → Map (List ℕ) → Map (List ℕ) → Map (List ℕ) → Type 0
After true before after m = m ≡ after
After false before after m = (m ≡ before) ⊎ (m ≡ after)
