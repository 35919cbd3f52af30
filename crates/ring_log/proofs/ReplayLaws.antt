-- The laws of a replayed log, and of cleaning: the front of a log may go when no value of the map stands there any more.
-- Assumes nothing.
use mathlib.Core.Path.{◌≡◌, refl, sym, ap, ◌∙◌}
use mathlib.Core.Logic.{◌≢◌, ite}
use mathlib.Core.List.{List, [], ◌∷◌, ◌++◌}
use mathlib.Core.Option.{Option, none, some, get_or}
use Rattle.ring_log.specs.Key.{Key, key≟}
use Rattle.ring_log.specs.Map.{Map, lookup, alter, Sorted, map_o, map_v}
use Rattle.ring_log.specs.Log.{Entry, or_else, replay, newest}
use Rattle.ring_log.proofs.MapLaws.{lookup_same, lookup_other, sorted_alter, ext}
use Rattle.ring_log.proofs.MapMore.{map_v_alter}

get_or_or_else : {A : Type 0} (x y : Option A) (d : A) → get_or (or_else x y) d ≡ get_or x (get_or y d)
get_or_or_else none y d = refl
get_or_or_else (some x) y d = refl

or_else_assoc : {A : Type 0} (x y z : Option A) → or_else (or_else x y) z ≡ or_else x (or_else y z)
or_else_assoc none y z = refl
or_else_assoc (some x) y z = refl

or_else_none : {A : Type 0} (x : Option A) → or_else x none ≡ x
or_else_none none = refl
or_else_none (some x) = refl

-- f of each value of a log
abbrev pub map_e : {A C : Type 0} → (A → C) → List (Entry A) → List (Entry C)
map_e f [] = []
map_e f (r ∷ l) = (r.0, map_o f r.1) ∷ map_e f l

module _ {A : Type 0} where
  -- a log and another after it
  pub replay_append : (a b : List (Entry A)) (m : Map A) → replay (a ++ b) m ≡ replay b (replay a m)
  replay_append [] b m = refl
  replay_append (r ∷ a) b m = replay_append a b (alter r.0 r.1 m)

  -- a replayed log is sorted
  pub sorted_replay : (l : List (Entry A)) (m : Map A) → Sorted m → Sorted (replay l m)
  sorted_replay [] m s = s
  sorted_replay (r ∷ l) m s = sorted_replay l (alter r.0 r.1 m) (sorted_alter r.0 r.1 m s)

  -- the newest entry of two logs is that of the later, if it has one
  pub newest_append : (k : Key) (a b : List (Entry A)) → newest k (a ++ b) ≡ or_else (newest k b) (newest k a)
  newest_append k [] b = sym (or_else_none (newest k b))
  newest_append k (r ∷ a) b = rw (newest_append k a b) (or_else_assoc (newest k b) (newest k a) _)

  alter_says : (k : Key) (r : Entry A) (m : Map A) → Sorted m → lookup k (alter r.0 r.1 m) ≡ get_or (ite (key≟ k r.0) (some r.1) none) (lookup k m)
  alter_says k r m s = go (key≟ k r.0)
    where
      go : (d : Dec (k ≡ r.0)) → lookup k (alter r.0 r.1 m) ≡ get_or (ite d (some r.1) none) (lookup k m)
      go (yes e) = rw e (lookup_same r.0 r.1 m s)
      go (no e) = lookup_other k r.0 r.1 m e

  -- what a key has after a replay: what its newest entry says, and what it had where there is none
  pub lookup_replay : (k : Key) (l : List (Entry A)) (m : Map A) → Sorted m → lookup k (replay l m) ≡ get_or (newest k l) (lookup k m)
  lookup_replay k [] m s = refl
  lookup_replay k (r ∷ l) m s =
      lookup_replay k l (alter r.0 r.1 m) (sorted_alter r.0 r.1 m s)
      ∙ ap (get_or (newest k l)) (alter_says k r m s)
      ∙ sym (get_or_or_else (newest k l) (ite (key≟ k r.0) (some r.1) none) (lookup k m))

  lookup_both : (k : Key) (t r : List (Entry A)) → lookup k (replay (t ++ r) []) ≡ get_or (newest k r) (get_or (newest k t) (lookup k []))
  lookup_both k t r =
      lookup_replay k (t ++ r) [] tt
      ∙ ap (λ (x : Option (Option A)). get_or x (lookup k [])) (newest_append k t r)
      ∙ get_or_or_else (newest k r) (newest k t) (lookup k [])

  -- THE CLEANING LAW, for code: if no value of the map comes from t, then t may go
  pub forget : (t r : List (Entry A))
      → ((k : Key) (a : A) → newest k t ≡ some (some a) → lookup k (replay (t ++ r) []) ≢ some a)
      → replay (t ++ r) [] ≡ replay r []
  unfolding lookup
  forget t r h =
      ext (replay (t ++ r) []) (replay r []) (sorted_replay (t ++ r) [] tt) (sorted_replay r [] tt)
      (λ k. lookup_both k t r ∙ go k (newest k r) refl (newest k t) refl ∙ sym (lookup_replay k r [] tt))
    where
      go : (k : Key) (x : Option (Option A)) → newest k r ≡ x → (y : Option (Option A)) → newest k t ≡ y → get_or (newest k r) (get_or (newest k t) none) ≡ get_or (newest k r) none
      go k (some x) e y d = rw e
      go k none e none d = rw (e, d)
      go k none e (some none) d = rw (e, d)
      go k none e (some (some a)) d = absurd (h k a d (lookup_both k t r ∙ rw (e, d)))

  -- f of each value, before or after the replay
  pub map_v_replay : {C : Type 0} (f : A → C) (l : List (Entry A)) (m : Map A) → map_v f (replay l m) ≡ replay (map_e f l) (map_v f m)
  map_v_replay f [] m = refl
  map_v_replay f (r ∷ l) m = map_v_replay f l (alter r.0 r.1 m) ∙ ap (replay (map_e f l)) (map_v_alter f r.0 r.1 m)
