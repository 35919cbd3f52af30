-- THE CURSOR OF CLEANING IS IN TIME: so far on that an opening finds little or nothing to copy, and no call is long. Nothing here mentions code. Assumes
-- nothing.
use Rattle.std.specs.Prelude.{◌≡◌, ℕ, ◌+◌, ◌-◌, ◌*◌, ◌≤◌}
use Rattle.std.proofs.Math.Option.{some}
use Rattle.ring_log.specs.Key.{Key}
use Rattle.ring_log.specs.Map.{lookup}
use Rattle.ring_log.specs.Log.{Placed, U}
use Rattle.ring_log.specs.Ring.{Chip, next, table}
use Rattle.ring_log.specs.Wear.{age, ripes}

-- the end of the log, in log places, where the head has n pages. A value of the age a stands at log place log_end - a
abbrev pub log_end : ℕ → ℕ → ℕ
log_end B n = U * (B - 2) + n

-- no value stands before log place p, where the head is block h
abbrev pub NoneBefore : ℕ → Chip → ℕ → ℕ → Type 0
NoneBefore B c h p = (k : Key) (a : Placed) → lookup k (table B c) ≡ some a → age (h + B) (next c h) a + p ≤ log_end B (next c h)

-- p is the cursor's place: within the log, and no value stands before it
pub record Behind (B : ℕ) (c : Chip) (h p : ℕ) : Type 0 where
  pub inside : p ≤ log_end B (next c h)
  pub none_before : NoneBefore B c h p

-- where a start puts it: at the oldest value, and at the end of the log where there is none
pub record Oldest (B : ℕ) (c : Chip) (h p : ℕ) : Type 0 where
  pub behind : Behind B c h p
  pub most : (q : ℕ) → Behind B c h q → q ≤ p

-- IN TIME, BUT FOR d: for each log place j from p on, with w = log_end - j places after it: eight for each page of the head and each value that stands before j
-- are at most p + 7 j + d
pub record Timely (B : ℕ) (c : Chip) (h p d : ℕ) : Type 0 where
  pub behind : Behind B c h p
  pub bound : (w : ℕ) → w + p ≤ log_end B (next c h) → 8 * (next c h + ripes w (h + B) (next c h) (table B c)) + 7 * w ≤ p + 7 * log_end B (next c h) + d
