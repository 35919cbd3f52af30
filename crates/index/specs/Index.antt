-- The index as a list of page numbers. Nothing here mentions code. Assumes nothing.
use Rattle.std.specs.Prelude.{List, ◌∷◌, ◌++◌, map, ℕ, suc, ◌+◌, ◌*◌, ◌≤◌, ◌<◌, length, take, drop, get_or}
use Rattle.record.specs.Record.{key_at}
use Rattle.ring_log.specs.Key.{Key, ◌≺◌}

-- the keys that stand on the pages ps of the chip c
unfoldable pub keys_of : List ℕ → List ℕ → List Key
keys_of c ps = map (key_at c) ps

-- each entry is a page of the chip, and the keys rise strictly
pub record Ordered (c ps : List ℕ) : Type 0 where
  pub inside : (i : ℕ) → i < length ps → 256 * get_or ps i 0 + 256 ≤ length c
  pub rising : (i j : ℕ) → i < j → j < length ps → key_at c (get_or ps i 0) ≺ key_at c (get_or ps j 0)

-- xs with x put in before place i; without its element i
abbrev pub insert_at : ℕ → ℕ → List ℕ → List ℕ
insert_at i x xs = take i xs ++ (x ∷ drop i xs)

abbrev pub remove_at : ℕ → List ℕ → List ℕ
remove_at i xs = take i xs ++ drop (suc i) xs
