-- A map from keys to values: a list of pairs, strictly sorted by key, so that equal maps are equal lists and the count is the length. The values are of
-- any type. Nothing here mentions code. Assumes nothing.
use Rattle.std.proofs.Math.Logic.{ite}
use Rattle.std.specs.Prelude.{List, [], ◌∷◌, ℕ, ◌+◌}
use Rattle.std.proofs.Math.Option.{Option, none, some}
use Rattle.ring_log.specs.Key.{Key, ◌≺◌, by_tri, tri, key≟}

-- pairs of a key and a value
abbrev pub Map : Type 0 → Type 0
Map A = List (Key × A)

module _ {A : Type 0} where
  -- the value that k has, or none
  unfoldable pub lookup : Key → Map A → Option A
  lookup k [] = none
  lookup k (p ∷ m) = ite (key≟ k p.0) (some p.1) (lookup k m)

  -- the pair of k and its value in front, if it has one
  abbrev pub put : Key → Option A → Map A → Map A
  put k none m = m
  put k (some v) m = (k, v) ∷ m

  -- THE MAP IN WHICH k HAS THE VALUE o, or none: to put and to delete are one
  unfoldable pub alter : Key → Option A → Map A → Map A
  alter k o [] = put k o []
  alter k o (p ∷ m) = by_tri (tri k p.0) (put k o (p ∷ m)) (put k o m) (p ∷ alter k o m)

  -- the keys of a map, in their order
  unfoldable pub keys : Map A → List Key
  keys [] = []
  keys (p ∷ m) = p.0 ∷ keys m

  -- each key of the map comes after k
  abbrev pub Above : Key → Map A → Type 0
  Above k [] = Unit {0}
  Above k (p ∷ m) = (k ≺ p.0) × Above k m

  -- strictly sorted by key
  abbrev pub Sorted : Map A → Type 0
  Sorted [] = Unit {0}
  Sorted (p ∷ m) = Above p.0 m × Sorted m

  -- the sum of f over the values
  abbrev pub total : (A → ℕ) → Map A → ℕ
  total f [] = 0
  total f (p ∷ m) = f p.1 + total f m

module _ {A C : Type 0} where
  -- f of a value, if there is one; and of each value of a map
  abbrev pub map_o : (A → C) → Option A → Option C
  map_o f none = none
  map_o f (some a) = some (f a)

  abbrev pub map_v : (A → C) → Map A → Map C
  map_v f [] = []
  map_v f (p ∷ m) = (p.0, f p.1) ∷ map_v f m
