-- WHAT A WALK OVER THE KEYS OF A STORE GIVES, whatever happens between its calls. Assumes nothing.
use mathlib.Core.Path.{◌≡◌, sym, subst}
use mathlib.Core.Logic.{◌⊎◌}
use mathlib.Core.List.{List, [], ◌∷◌}
use Prim.Native.Nat.{ℕ, ◌*◌, ◌≤◌, ◌<◌}
use native.Mathlib.Omega.{arith}
use lib.ListN.{length}
use Rattle.ring_log.specs.Key.{Key, ◌≺◌}
use Rattle.ring_log.specs.Map.{Map, Sorted, keys}
use Rattle.lent.specs.Area.{map_in, lent_of}
use Rattle.lent.specs.Ended.{Answer, Done, Refused}
use Rattle.keys.specs.Walk.{Walk, Has, Each, times, Rise, Had}
use Rattle.keys.specs.Walk as walk
use Rattle.keys.proofs.Chips.{map_sorted, map_key}
use Rattle.keys.proofs.Given.{next_given, next_ended, next_answers}
use Rattle.keys.proofs.Walks.{rise_once, walk_rises, walk_had, walk_once, walk_all}
use Rattle.histories.specs.Walks.{Call, Walks, end, step, maps}
use Rattle.histories.proofs.Histories.{Tends, tends, kept, lives}

each_sorted : (cs : List (List ℕ)) → Each Sorted (maps cs)
each_sorted [] = tt
each_sorted (c ∷ cs) = (map_sorted c, each_sorted cs)

-- the empty key comes before every other
before_all : (k : Key) → 1 ≤ length k → [] ≺ k
before_all [] l = absurd (omega arith)
before_all (x ∷ k) l = tt

module _ (B : ℕ) (big : 4 ≤ B) where
  -- the calls of a store walk over its maps
  walked : {k : Key} {cs : List (List ℕ)} {js : List Key} → Walks B k cs js → Walk k (maps cs) js
  walked (end {k} {c} {b'} a) = walk.end (next_ended (lent_of c a.f a.w) k (map_in c) a.b b' (a.ends (kept B big a.history)))
  walked (step {k} {c} {b'} len a w) =
      walk.step (next_given (lent_of c a.f a.w) k (map_in c) a.b b' len (a.ends (kept B big a.history))) (walked w)

  -- a key that has a value at a call has 1 to 16 bytes
  called_key : {k c b' : List ℕ} {r : Answer} → Call B k c r b' → (x : Key) → Has x (map_in c) → (1 ≤ length x) × (length x ≤ 16)
  called_key {k} {c} a x h =
      let z : length c ≡ 4096 * B = (lives B big a.history).size in
      map_key c (omega arith) (omega arith) x h

  -- THEOREM: THE KEYS THAT A WALK GIVES RISE: none is given twice
  pub given_rise : {cs : List (List ℕ)} {js : List Key} → Walks B [] cs js → Rise [] js
  given_rise w = walk_rises (walked w)

  pub given_never_twice : {cs : List (List ℕ)} {js : List Key} → Walks B [] cs js → (k : Key) → times k js ≤ 1
  given_never_twice w k = rise_once k [] _ (given_rise w)

  -- THEOREM: EACH HAD A VALUE WHEN IT WAS GIVEN
  pub given_had : {cs : List (List ℕ)} {js : List Key} → Walks B [] cs js → Had (maps cs) js
  given_had w = walk_had (walked w)

  -- THEOREM: A KEY THAT HAS A VALUE AT EACH CALL OF THE WALK IS GIVEN EXACTLY ONCE, whatever else happens. A key that had a value throughout has one at each
  -- call
  pub given_once : {cs : List (List ℕ)} {js : List Key} → Walks B [] cs js → (k : Key) → Each (Has k) (maps cs) → times k js ≡ 1
  given_once {cs} w k h = walk_once (walked w) k (before_all k (some_key w h)) (each_sorted cs) h
    where
      some_key : {j : Key} {cs : List (List ℕ)} {js : List Key} → Walks B j cs js → Each (Has k) (maps cs) → 1 ≤ length k
      some_key (end a) h = (called_key a k h.0).0
      some_key (step len a w) h = (called_key a k h.0).0

  -- THEOREM: WHERE THE MAP IS THE SAME AT EVERY CALL, A WALK GIVES ALL ITS KEYS IN THEIR ORDER, each once
  pub given_all : {cs : List (List ℕ)} {js : List Key} → Walks B [] cs js → (m : Map (List ℕ)) → Each (λ n. n ≡ m) (maps cs) → js ≡ keys m
  given_all {cs} w m h = walk_all (walked w) m (first_of w h).0 (first_of w h).1 h
    where
      first_of : {j : Key} {cs : List (List ℕ)} {js : List Key} → Walks B j cs js → Each (λ n. n ≡ m) (maps cs) → Sorted m × (Has [] m → ⊥)
      first_of (end {k} {c} a) h = (subst Sorted h.0 (map_sorted c), λ v. omega (arith, (called_key a [] (subst (Has []) (sym h.0) v)).0))
      first_of (step {k} {c} len a w) h = (subst Sorted h.0 (map_sorted c), λ v. omega (arith, (called_key a [] (subst (Has []) (sym h.0) v)).0))

  -- a key that was given may be given back: its length is allowed
  pub given_short : {k : Key} {cs : List (List ℕ)} {js : List Key} → Walks B k cs js → Each (λ j. (1 ≤ length j) × (length j ≤ 16)) js
  given_short w = go w (walk_had (walked w))
    where
      go : {k : Key} {cs : List (List ℕ)} {js : List Key} → Walks B k cs js → Had (maps cs) js → Each (λ j. (1 ≤ length j) × (length j ≤ 16)) js
      go (end a) h = tt
      go (step len a w) h = (called_key a _ h.0, go w h.1)

  -- A CALL OF A WALK GIVES A KEY, OR SAYS THAT THERE IS NONE: where there is power, a key is given back, and the buffer has 16 bytes or more
  pub call_answers : {k c b' : List ℕ} {r : Answer} (a : Call B k c r b') → 0 < a.f → length k ≤ 16 → 16 ≤ length a.b → (r ≡ Refused 4) ⊎ ((len : ℕ) × (r ≡ Done len))
  call_answers {k} {c} {b'} {r} a l h g =
      let t : Tends c a.f a.w = tends B big a.history in
      next_answers c a.f a.w k a.b b' t.sized l (t.lit l).0 h g r (a.ends (kept B big a.history))
