-- THE ANSWERS AS NUMBERS, for C: what a call is done with, or minus the number of its refusal. Assumes nothing.
use Rattle.std.specs.Prelude.{◌≡◌, ℕ, ltb, cond, ℤ, pos, neg_ℤ}
use Rattle.lent.specs.Ended.{Answer, Done, Refused}

-- a number that an i64 holds. (Lengths and counts of keys are less by far)
abbrev pub held : ℕ → ℕ
held n = cond (ltb n 9223372036854775808) n 9223372036854775807

-- the number of an answer
abbrev pub number_of : Answer → ℤ
number_of (Done n) = pos (held n)
number_of (Refused k) = neg_ℤ (pos k)

-- r is the number of an answer of which P holds
pub record Answers (P : Answer → Type 0) (r : ℤ) : Type 0 where
  pub answer : Answer
  pub number : r ≡ number_of answer
  pub right : P answer

-- the version of the library, as one number: 10,000 for the first of its three numbers, 100 for the second, 1 for the third (the file VERSION)
abbrev pub version_number : ℕ
version_number = 1000
