-- THE NEXT KEY (document 02, request 8). Assumes nothing.
use Rattle.std.specs.Prelude.{List, [], ◌∷◌, ℕ, leb, length, drop}
use Rattle.std.proofs.Math.Option.{Option, none, some}
use Rattle.ring_log.specs.Key.{Key, by_tri, tri}
use Rattle.ring_log.specs.Map.{Map}
use Rattle.ring_log.specs.Answers.{Lent, refuse, lent, gotten}
use Rattle.ring_log.specs.Answers.{Answer as Says}
use Rattle.index.specs.Index.{keys_of, Ordered}
use Rattle.lent.specs.Area.{map_in, lent_of, Kept}
use Rattle.fetch.specs.Fetched.{Gets}
use Rattle.lent.specs.Ended.{Answer}

-- the next larger key that has a value: the first of the map's keys, in their order, that comes after k; none if there is none
unfoldable pub next_key : {A : Type 0} → Key → Map A → Option Key
next_key k [] = none
next_key k (p ∷ m) = by_tri (tri k p.0) (some p.0) (next_key k m) (next_key k m)

-- NEXT: the key's length, and the buffer afterwards, with the key at its start. 1: the key that is given is longer than 16 (no key is given as the empty one);
-- 4: there is no next key; 6: the buffer is shorter than it. The other refusals, and the order of all, are those of get
abbrev pub next_answer : Lent → Key → List ℕ → Map (List ℕ) → Says (ℕ × List ℕ)
next_answer l k buffer m = lent l (refuse 1 (leb 17 (length k)) (gotten buffer (next_key k m)))

-- THE CONTRACT OF THE CALL, as the code has it and as histories are made of it; as `GetEnds` is that of get
abbrev pub NextEnds : List ℕ → ℕ → List ℕ → List ℕ → List ℕ → List ℕ → Answer → Type 0
NextEnds c f w key b b' r = Kept c f w → Gets b b' (next_answer (lent_of c f w) key b (map_in c)) r

-- ---- the inner function

-- the first of some keys
abbrev pub first : List Key → Option Key
first [] = none
first (k ∷ ks) = some k

-- what is handed out from entry i on: where the entries are pages of the chip in the order of their keys, the key of the first of them goes to the buffer
pub record HandsFrom (c ps : List ℕ) (i : ℕ) (b b' : List ℕ) (r : Answer) : Type 0 where
  pub right : Ordered c ps → Gets b b' (gotten b (first (drop i (keys_of c ps)))) r
