-- A map by places, as an array holds it: what a binary search that ends at place i says of `lookup` and `alter`.
-- Assumes nothing.
use mathlib.Core.Path.{◌≡◌, sym, ap, ◌∙◌, subst}
use mathlib.Core.List.{[], ◌∷◌, ◌++◌}
use mathlib.Core.Option.{Option, none, some}
use Prim.Native.Nat.{ℕ, zero, suc, ◌≤◌, ◌<◌, zero-le, suc-le-suc}
use native.Mathlib.Nat.{le_of_suc-le-suc, not-suc-le-zero}
use native.Mathlib.Omega.{arith}
use lib.ListN.{length, get_or, take, drop, set, take-append-drop}
use lib.Seq.{split_at, set_split}
use Rattle.ring_log.specs.Key.{Key, ◌≺◌}
use Rattle.ring_log.specs.Map.{Map, lookup, put, alter, Above, Sorted}
use Rattle.ring_log.specs.Opening.{key_at}
use Rattle.ring_log.proofs.MapLaws.{Below}
use Rattle.ring_log.proofs.MapMore.{alter_between, alter_at, lookup_between, lookup_at, sorted_at}

module _ {A : Type 0} (d : Key × A) where
  below_take : (k : Key) (m : Map A) (i : ℕ) → i ≤ length m → ((j : ℕ) → j < i → key_at d m j ≺ k) → Below k (take i m)
  below_take k m zero h f = tt
  below_take k [] (suc i) h f = absurd (not-suc-le-zero h)
  below_take k (p ∷ m) (suc i) h f = (f zero (suc-le-suc zero-le), below_take k m i (le_of_suc-le-suc h) (λ j l. f (suc j) (suc-le-suc l)))

  above_all : (k : Key) (m : Map A) → ((j : ℕ) → j < length m → k ≺ key_at d m j) → Above k m
  above_all k [] f = tt
  above_all k (p ∷ m) f = (f zero (suc-le-suc zero-le), above_all k m (λ j l. f (suc j) (suc-le-suc l)))

  above_drop : (k : Key) (m : Map A) (i : ℕ) → ((j : ℕ) → i ≤ j → j < length m → k ≺ key_at d m j) → Above k (drop i m)
  above_drop k m zero f = above_all k m (λ j l. f j zero-le l)
  above_drop k [] (suc i) f = tt
  above_drop k (p ∷ m) (suc i) f = above_drop k m i (λ j h l. f (suc j) (suc-le-suc h) (suc-le-suc l))

  module _ (k : Key) (m : Map A) (i : ℕ) where
    -- ---- the search found no k, and i keys are before it

    module _ (h : i ≤ length m) (f : (j : ℕ) → j < i → key_at d m j ≺ k) (g : (j : ℕ) → i ≤ j → j < length m → k ≺ key_at d m j) where
      -- it has no value
      pub absent_lookup : lookup k m ≡ none
      absent_lookup = ap (lookup k) (sym (take-append-drop i m)) ∙ lookup_between k (take i m) (drop i m) (below_take k m i h f) (above_drop k m i g)

      -- a value for it goes in at i
      pub absent_alter : (o : Option A) → alter k o m ≡ take i m ++ put k o (drop i m)
      absent_alter o = ap (alter k o) (sym (take-append-drop i m)) ∙ alter_between k o (take i m) (drop i m) (below_take k m i h f) (above_drop k m i g)

    -- ---- the search found k at i

    module _ (s : Sorted m) (h : i < length m) (e : k ≡ key_at d m i) where
      below : Below k (take i m)
      below = below_take k m i (omega arith) (λ j l. subst (λ (x : Key). key_at d m j ≺ x) (sym e) (sorted_at m j i d s l h))

      -- its value is that at i
      pub found_lookup : lookup k m ≡ some (get_or m i d).1
      found_lookup = ap (lookup k) (split_at m i d h) ∙ lookup_at k (take i m) (get_or m i d) (drop (suc i) m) below e

      -- the pair at i is replaced or goes
      pub found_alter : (o : Option A) → alter k o m ≡ take i m ++ put k o (drop (suc i) m)
      found_alter o = ap (alter k o) (split_at m i d h) ∙ alter_at k o (take i m) (get_or m i d) (drop (suc i) m) below e

      -- a new value is a store at i
      pub found_set : (v : A) → alter k (some v) m ≡ set m i (k, v)
      found_set v = found_alter (some v) ∙ sym (set_split m i (k, v) h)
