-- HOW A CALL ENDED, as document 01 has it: by numbers, read off what the code answers. Every contract of a call speaks in these words. Assumes nothing.
use Rattle.std.specs.Prelude.{ℕ, Result, Ok, Err}
use Rattle.lent.specs.declared.Refusal.{Refusal}
use Rattle.lent.specs.declared.Refusal.TheVariants.{BadKey, LongValue, NoRoom, NoValue, BadSize, ShortBuffer, PowerGone, NotStarted}

-- document 01's number of a refusal
abbrev pub refusal_number : Refusal → ℕ
refusal_number BadKey = 1
refusal_number LongValue = 2
refusal_number NoRoom = 3
refusal_number NoValue = 4
refusal_number BadSize = 5
refusal_number ShortBuffer = 6
refusal_number PowerGone = 7
refusal_number NotStarted = 8

-- it is done, with a number for those calls that answer one; or it was refused, with document 01's number
pub data Answer : Type 0 where
  Done : ℕ → Answer
  Refused : ℕ → Answer

-- what the code answers, read so
abbrev pub answer_of : Result ℕ Refusal → Answer
answer_of (Ok n) = Done n
answer_of (Err r) = Refused (refusal_number r)

-- the number of the refusal that is due; 0 for none
abbrev pub number_due : {A : Type 0} → Result A Refusal → ℕ
number_due (Ok x) = 0
number_due (Err r) = refusal_number r
