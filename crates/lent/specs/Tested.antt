-- THE REFUSALS THAT NEED NO SEARCH, as numbers, in document 01's order: 5, 7 and 8 of what is lent, then 1 of the key. Assumes nothing.
use Rattle.std.specs.Prelude.{Bool, true, false, not, ◌||◌, List, ◌≡◌, ℕ, ◌<◌, zero, suc, leb, eqb, length}
use Rattle.ring_log.specs.Answers.{refused, Lent, sizes_test}
use Rattle.ring_log.specs.Answers.{Answer as Says}
use Rattle.lent.specs.Area.{Checked, mark, lent_of, Kept}

-- the number n where the test holds; else k, which comes after it
abbrev pub number : ℕ → Bool → ℕ → ℕ
number n true k = n
number n false k = k

-- 5, 7 and 8 of what is lent, and then k
abbrev pub lent_number : Lent → ℕ → ℕ
lent_number l k = number 5 (not (sizes_test l.chip l.work)) (number 7 l.dark (number 8 (not l.ready) k))

-- 1 of the key, and then k
abbrev pub key_number : List ℕ → ℕ → ℕ
key_number key k = number 1 (eqb (length key) 0 || leb 17 (length key)) k

-- an answer by the number that is due: 0 lets the call go on
abbrev pub due : {A : Type 0} → ℕ → Says A → Says A
due zero a = a
due (suc k) a = refused (suc k)

-- what is found before any search: 0 lets the call go on, with power, a mark of 1, and all in its range; another number is the refusal that is due
pub record Tested (c : List ℕ) (f : ℕ) (w : List ℕ) (n r : ℕ) : Type 0 where
  pub lit : r ≡ 0 → 0 < f
  pub marked : r ≡ 0 → mark w ≡ 1
  pub checked : r ≡ 0 → Checked c w
  pub due : Kept c f w → r ≡ lent_number (lent_of c f w) n
