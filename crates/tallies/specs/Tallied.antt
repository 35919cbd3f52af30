-- Where the numbers of a tally stand, as the rows of the report name them, and how one is raised. Assumes nothing.
use Rattle.std.specs.Prelude.{ℕ, ◌+◌, ◌-◌, ◌^◌, List, min, slice_index, slice_set}
use Rattle.chance.specs.declared.ChipKind.TheVariants.{Bytes, Pages, Ring, FirstRound}
use Rattle.chance.specs.declared.Heading.TheVariants.{Tame, Wild}
use Rattle.tallies.specs.declared.Part.{Part}
use Rattle.tallies.specs.declared.Part.TheVariants.{Chips, Stores, Areas, All}
use Rattle.tallies.specs.declared.Slot.{Slot}
use Rattle.tallies.specs.declared.Slot.TheVariants.{Start, Put, Delete, Get, StartAgain, Count, KeysFirst, ValuesFirst, KeysChanged, KeysAgain, ValuesAgain, BytesChanged, KeysCounted, Calls, Spoilt, Past}

-- where a part's 64 numbers begin
abbrev pub begins : Part → ℕ
begins (Chips Bytes) = 0
begins (Chips Pages) = 64
begins (Chips Ring) = 128
begins (Chips FirstRound) = 192
begins Stores = 256
begins (Areas Tame) = 320
begins (Areas Wild) = 384
begins All = 448

-- the place of what is counted among them
abbrev pub place : Slot → ℕ
place Start = 0
place Put = 10
place Delete = 20
place Get = 30
place StartAgain = 40
place Count = 40
place KeysFirst = 50
place ValuesFirst = 51
place KeysChanged = 52
place KeysAgain = 53
place ValuesAgain = 54
place BytesChanged = 50
place KeysCounted = 51
place Calls = 0
place Spoilt = 1
place Past = 2

-- number i of them is raised, as far as it goes
abbrev pub raised : List ℕ → ℕ → ℕ → List ℕ
raised ns i n = slice_set ns i (min (slice_index ns i + n) (2 ^ 64 - 1))

-- one more of the answers of that number
abbrev pub noted : List ℕ → Part → Slot → ℕ → List ℕ
noted ns part slot answer = raised ns (begins part + place slot + answer) 1
