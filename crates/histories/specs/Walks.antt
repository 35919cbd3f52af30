-- A WALK OVER THE KEYS OF A STORE (document 02, request 8): calls of next from none to the end, with anything between them. Assumes nothing.
use Rattle.std.specs.Prelude.{◌≡◌, ◌⊎◌, List, [], ◌∷◌, ℕ, ◌≤◌, ◌<◌, length, take}
use Rattle.chip.specs.Play.{Op}
use Rattle.ring_log.specs.Key.{Key}
use Rattle.ring_log.specs.Map.{Map, keys}
use Rattle.lent.specs.Area.{map_in}
use Rattle.lent.specs.Ended.{Answer, Done, Refused}
use Rattle.keys.specs.Next.{NextEnds}
use Rattle.keys.specs.Walk.{Has, Each, times, Rise, Had}
use Rattle.histories.specs.History.{on, History}

-- A CALL OF NEXT, given k, after some history: the chip c at the call, what it answered, and the buffer after it
pub record Call (B : ℕ) (k c : List ℕ) (r : Answer) (b' : List ℕ) : Type 0 where
  pub noise : List ℕ
  pub f : ℕ
  pub w : List ℕ
  pub n : ℕ
  pub q : ℕ
  pub ops : List Op
  pub history : History B (on noise f w) c n q ops
  pub b : List ℕ
  pub ends : NextEnds c f w k b b' r

-- A WALK FROM k: the chips at its calls and the keys that they gave. Each call is given the key that the one before it gave, the first one k; the last one is
-- refused with 4. The calls stand after any histories: so between two of them there may be puts, deletes, failures of the power and starts, refused calls too
pub data Walks (B : ℕ) : Key → List (List ℕ) → List Key → Type 0 where
  end : {k c b' : List ℕ} → Call B k c (Refused 4) b' → Walks B k (c ∷ []) []
  step : {k c b' : List ℕ} {cs : List (List ℕ)} {js : List Key} (len : ℕ) → Call B k c (Done len) b' → Walks B (take len b') cs js → Walks B k (c ∷ cs) (take len b' ∷ js)

-- the maps of some chips
abbrev pub maps : List (List ℕ) → List (Map (List ℕ))
maps [] = []
maps (c ∷ cs) = map_in c ∷ maps cs

-- ---- WHAT IS PROVED OF THEM, for every B from 4 on (proofs/Theorems.antt)

-- WHAT A WALK GIVES, from none to the end
pub record Given (B : ℕ) {cs : List (List ℕ)} {js : List Key} (w : Walks B [] cs js) : Type 0 where
  -- the keys rise, so that none is given twice, and each had a value when it was given
  pub rise : Rise [] js
  pub never_twice : (k : Key) → times k js ≤ 1
  pub had : Had (maps cs) js
  -- A KEY THAT HAS A VALUE AT EACH CALL IS GIVEN EXACTLY ONCE, whatever else happens
  pub once : (k : Key) → Each (Has k) (maps cs) → times k js ≡ 1
  -- WHERE THE MAP IS THE SAME AT EVERY CALL, its keys are given, all of them in their order
  pub all : (m : Map (List ℕ)) → Each (λ n. n ≡ m) (maps cs) → js ≡ keys m
  -- a key that was given may be given back: its length is allowed
  pub short : Each (λ j. (1 ≤ length j) × (length j ≤ 16)) js

-- A CALL OF A WALK GIVES A KEY, OR SAYS THAT THERE IS NONE: where there is power, the key that is given back isn't too long, and the buffer has 16 bytes or
-- more
pub record Answers (B : ℕ) {k c b' : List ℕ} {r : Answer} (a : Call B k c r b') : Type 0 where
  pub answers : 0 < a.f → length k ≤ 16 → 16 ≤ length a.b → (r ≡ Refused 4) ⊎ ((len : ℕ) × (r ≡ Done len))
