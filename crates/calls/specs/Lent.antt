-- What the calls promise, at what a bench lends them.
use Rattle.std.specs.Prelude.{◌≡◌, ◌≤◌, ℕ, List, Result, length, ⊤}
use Rattle.lent.specs.declared.Refusal.{Refusal}
use Rattle.lent.specs.Ended.{answer_of}
use Rattle.change.specs.Changed.{PutEnds, DeleteEnds}
use Rattle.start.specs.Started.{StartEnds}
use Rattle.format.specs.Formatted.{FormatEnds}
use Rattle.fetch.specs.Fetched.{GetEnds, CountEnds}
use Rattle.calls.specs.declared.Bench.{Bench}
use Rattle.calls.specs.declared.Call.{Call}
use Rattle.calls.specs.declared.Call.TheVariants.{Put, Puts, Delete, Start, Format}
use Rattle.trying.specs.Words.{spelt}
use Rattle.trying.specs.declared.words.TheConstants.{LONGEST}

abbrev pub PutOn : List ℕ → List ℕ → Bench → Bench → Result ℕ Refusal → Type 0
PutOn key value b c r = PutEnds b.noise.now b.chip.now b.fuse.now b.work.now key value c.chip.now c.fuse.now c.work.now (answer_of r)

abbrev pub DeleteOn : List ℕ → Bench → Bench → Result ℕ Refusal → Type 0
DeleteOn key b c r = DeleteEnds b.noise.now b.chip.now b.fuse.now b.work.now key c.chip.now c.fuse.now c.work.now (answer_of r)

abbrev pub StartOn : Bench → Bench → Result ℕ Refusal → Type 0
StartOn b c r = StartEnds b.chip.now b.fuse.now b.work.now c.work.now (answer_of r)

abbrev pub FormatOn : Bench → Bench → Result ℕ Refusal → Type 0
FormatOn b c r = FormatEnds b.chip.now b.fuse.now b.work.now c.chip.now c.fuse.now c.work.now (answer_of r)

abbrev pub GetOn : List ℕ → Bench → List ℕ → List ℕ → Result ℕ Refusal → Type 0
GetOn key b before after r = GetEnds b.chip.now b.fuse.now b.work.now key before after (answer_of r)

abbrev pub CountOn : Bench → Result ℕ Refusal → Type 0
CountOn b r = CountEnds b.chip.now b.fuse.now b.work.now (answer_of r)

-- What is lent keeps its length.
abbrev pub KeepsLengths : Bench → Bench → Type 0
KeepsLengths b c = (length c.chip.now ≡ length b.chip.now) × (length c.work.now ≡ length b.work.now)

-- The same is lent still: what a call leaves of it, it leaves where the caller has it.
abbrev pub LentStill : Bench → Bench → Type 0
LentStill b c = (c.chip.ghost_name ≡ b.chip.ghost_name) × (c.work.ghost_name ≡ b.work.ghost_name) × (c.fuse.ghost_name ≡ b.fuse.ghost_name) × (c.noise ≡ b.noise)

-- The call is made: of many puts no more is said than that what is lent keeps its length.
abbrev pub Makes : Call → Bench → Bench → Result ℕ Refusal → Type 0
Makes (Put key value) b c r = PutOn (spelt key) (spelt value) b c r
Makes (Puts key times) b c r = KeepsLengths b c
Makes (Delete key) b c r = DeleteOn (spelt key) b c r
Makes Start b c r = StartOn b c r
Makes Format b c r = FormatOn b c r

-- The keys and the values are cut at what a script may have.
abbrev pub IsCut : Call → Type 0
IsCut (Put key value) = (key.length ≤ LONGEST) × (value.length ≤ LONGEST)
IsCut (Puts key times) = key.length ≤ LONGEST
IsCut (Delete key) = key.length ≤ LONGEST
IsCut Start = ⊤
IsCut Format = ⊤
