-- HOW FORMAT ENDS (document 01, section 3). Assumes nothing.
use Rattle.std.specs.Prelude.{Bool, true, false, List, ◌⊎◌, ◌≡◌, ℕ, ◌<◌, ◌*◌, length}
use Rattle.ring_log.specs.Answers.{refused, done, format_answer}
use Rattle.ring_log.specs.Answers.{Answer as Says}
use Rattle.ring_log.specs.Map.{Map}
use Rattle.ring_log.specs.Ring.{chip_of}
use Rattle.lent.specs.Area.{blocks_of, map_in, mark, lent_of}
use Rattle.lent.specs.Ended.{Answer, Done, Refused}

-- every block erased: every page is blank and the power is on; or it went
pub record ClearsAll (b : ℕ) (c : List ℕ) (f : ℕ) (r : Bool) : Type 0 where
  pub blank : r ≡ true → (p : ℕ) → p < 16 * b → (chip_of c).full p ≡ false
  pub lit : r ≡ true → 0 < f
  pub lost : r ≡ false → f ≡ 0

-- ---- FORMAT, of any bytes, any area: every page is blank, the power is still there, and the map is empty; a start must follow. Cut short, at its last erase
-- too, it promises nothing but that
abbrev pub FormatsBy : List ℕ → ℕ → List ℕ → List ℕ → ℕ → List ℕ → Says (Map (List ℕ)) → Answer → Type 0
FormatsBy c f w c' f' w' (refused k) r = (r ≡ Refused k) × (c' ≡ c) × (w' ≡ w) × (f' ≡ f)
FormatsBy c f w c' f' w' (done m) r =
    ((r ≡ Done 0) × (0 < f') × (mark w' ≡ 0) × ((p : ℕ) → p < 16 * blocks_of c' → (chip_of c').full p ≡ false) × (map_in c' ≡ m))
    ⊎ ((r ≡ Refused 7) × (f' ≡ 0) × (mark w' ≡ 2))

pub record Formats (c : List ℕ) (f : ℕ) (w c' : List ℕ) (f' : ℕ) (w' : List ℕ) (s : Says (Map (List ℕ))) (r : Answer) : Type 0 where
  pub size : length w' ≡ length w
  pub ends : FormatsBy c f w c' f' w' s r

-- ---- THE CONTRACT OF FORMAT, as the code has it
abbrev pub FormatEnds : List ℕ → ℕ → List ℕ → List ℕ → ℕ → List ℕ → Answer → Type 0
FormatEnds c f w c' f' w' r = Formats c f w c' f' w' (format_answer (lent_of c f w)) r
