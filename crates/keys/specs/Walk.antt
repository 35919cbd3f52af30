-- A WALK over the keys (document 02, request 8): "Walking from none to the end gives each key once. If puts and deletes happen during the walk, each key that had a value throughout
-- is still given exactly once." Nothing here mentions code. Assumes nothing.
use Rattle.std.specs.Prelude.{◌≡◌, List, [], ◌∷◌, ℕ, ◌+◌}
use Rattle.std.proofs.Math.Logic.{ite}
use Rattle.std.proofs.Math.Option.{none, some}
use Rattle.ring_log.specs.Key.{Key, ◌≺◌, key≟}
use Rattle.ring_log.specs.Map.{Map, lookup}
use Rattle.keys.specs.Next.{next_key}

-- A WALK FROM k: the maps at its calls, of which there is at least one, and the keys that they gave. Each call is given the key that the one before it gave, the first one k;
-- the last one says that there is no next key. Between two calls anything may have happened to the map
pub data Walk {A : Type 0} : Key → List (Map A) → List Key → Type 0 where
  end : {k : Key} {m : Map A} → next_key k m ≡ none → Walk k (m ∷ []) []
  step : {k j : Key} {m : Map A} {ms : List (Map A)} {js : List Key} → next_key k m ≡ some j → Walk j ms js → Walk k (m ∷ ms) (j ∷ js)

-- the key has a value in the map
abbrev pub Has : {A : Type 0} → Key → Map A → Type 0
Has {A} k m = (a : A) × (lookup k m ≡ some a)

-- P holds of each of them
abbrev pub Each : {X : Type 0} → (X → Type 0) → List X → Type 0
Each P [] = Unit {0}
Each P (x ∷ xs) = P x × Each P xs

-- how often a key is among some keys
unfoldable pub times : Key → List Key → ℕ
times k [] = 0
times k (j ∷ js) = ite (key≟ k j) 1 0 + times k js

-- the keys rise, and the first comes after k
abbrev pub Rise : Key → List Key → Type 0
Rise k [] = Unit {0}
Rise k (j ∷ js) = (k ≺ j) × Rise j js

-- each key has a value in the map that stands at its place: it had one when it was given
abbrev pub Had : {A : Type 0} → List (Map A) → List Key → Type 0
Had ms [] = Unit {0}
Had [] (j ∷ js) = ⊥
Had (m ∷ ms) (j ∷ js) = Has j m × Had ms js
