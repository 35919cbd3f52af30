-- The index of memory: the pages of the run's rows. What a search in it finds stands on the chip, and what `alter` does to it is a store, a shift up or a shift down.
-- Assumes nothing.
use mathlib.Core.Path.{◌≡◌, refl, sym, ap, ◌∙◌}
use mathlib.Core.List.{List, [], ◌∷◌, ◌++◌}
use mathlib.Core.Option.{none, some}
use Prim.Native.Nat.{ℕ, zero, suc, ◌+◌, ◌-◌, ◌*◌, ◌≤◌, ◌<◌}
use native.Mathlib.Nat.{le_of_suc-le-suc, not-suc-le-zero}
use native.Mathlib.Decide.{dec_lt}
use native.Mathlib.Omega.{arith}
use lib.ListN.{length, get_or, take, drop, set}
use Rattle.ring_log.specs.Key.{Key, ◌≺◌}
use Rattle.ring_log.specs.Map.{Map, alter, Sorted}
use Rattle.ring_log.specs.Log.{Recs, Placed, page_of, oldest, run, pages}
use Rattle.ring_log.specs.Opening.{key_at}
use Rattle.ring_log.proofs.Window.{page_inj}
use Rattle.ring_log.proofs.LogLaws.{Stands}
use Rattle.ring_log.proofs.Clean.{run_sorted, run_stands}
use Rattle.ring_log.proofs.Place.{absent_alter, found_lookup, found_alter, found_set}

module _ (B : ℕ) where
  -- the index has an entry for each row
  pub pages_length : (m : Map Placed) → length (pages B m) ≡ length m
  pages_length [] = refl
  pages_length (p ∷ m) = ap suc (pages_length m)

  -- entry i is the page of row i
  pub pages_at : (d : Key × Placed) (m : Map Placed) (i : ℕ) → i < length m → get_or (pages B m) i 0 ≡ page_of B (get_or m i d).1.0
  pages_at d [] i h = absurd (not-suc-le-zero h)
  pages_at d (p ∷ m) zero h = refl
  pages_at d (p ∷ m) (suc i) h = pages_at d m i (le_of_suc-le-suc h)

  pages_append : (a b : Map Placed) → pages B (a ++ b) ≡ pages B a ++ pages B b
  pages_append [] b = refl
  pages_append (p ∷ a) b = ap (λ (l : List ℕ). page_of B p.1.0 ∷ l) (pages_append a b)

  pages_take : (i : ℕ) (m : Map Placed) → pages B (take i m) ≡ take i (pages B m)
  pages_take zero m = refl
  pages_take (suc i) [] = refl
  pages_take (suc i) (p ∷ m) = ap (λ (l : List ℕ). page_of B p.1.0 ∷ l) (pages_take i m)

  pages_drop : (i : ℕ) (m : Map Placed) → pages B (drop i m) ≡ drop i (pages B m)
  pages_drop zero m = refl
  pages_drop (suc i) [] = refl
  pages_drop (suc i) (p ∷ m) = pages_drop i m

  pages_set : (m : Map Placed) (i : ℕ) (p : Key × Placed) → pages B (set m i p) ≡ set (pages B m) i (page_of B p.1.0)
  pages_set [] i p = refl
  pages_set (q ∷ m) zero p = refl
  pages_set (q ∷ m) (suc i) p = ap (λ (l : List ℕ). page_of B q.1.0 ∷ l) (pages_set m i p)

  module _ (d : Key × Placed) (k : Key) (m : Map Placed) (i : ℕ) where
    -- a new key, before place i
    pub pages_insert : (a : Placed) → i ≤ length m → ((j : ℕ) → j < i → key_at d m j ≺ k) → ((j : ℕ) → i ≤ j → j < length m → k ≺ key_at d m j)
        → pages B (alter k (some a) m) ≡ take i (pages B m) ++ page_of B a.0 ∷ drop i (pages B m)
    pages_insert a h f g =
        ap (pages B) (absent_alter d k m i h f g (some a))
        ∙ pages_append (take i m) ((k, a) ∷ drop i m)
        ∙ rw (pages_take i m, pages_drop i m)

    -- a key that stands at place i: a new value, or none
    pub pages_replace : (a : Placed) → Sorted m → i < length m → k ≡ key_at d m i → pages B (alter k (some a) m) ≡ set (pages B m) i (page_of B a.0)
    pages_replace a s h e = ap (pages B) (found_set d k m i s h e a) ∙ pages_set m i (k, a)

    -- and is deleted
    pub pages_remove : Sorted m → i < length m → k ≡ key_at d m i → pages B (alter k none m) ≡ take i (pages B m) ++ drop (suc i) (pages B m)
    pages_remove s h e =
        ap (pages B) (found_alter d k m i s h e none) ∙ pages_append (take i m) (drop (suc i) m) ∙ rw (pages_take i m, pages_drop (suc i) m)

  -- row i stands on the page that the index has at i
  pub index_stands : (recs : Recs) (e s : ℕ) (d : Key × Placed) (i : ℕ) → i < length (run B recs e s)
      → Stands B recs (oldest B e) (s - oldest B e) (key_at d (run B recs e s) i) (get_or (run B recs e s) i d).1
  index_stands recs e s d i h =
      run_stands B recs e s (key_at d (run B recs e s) i) (get_or (run B recs e s) i d).1
      (found_lookup d (key_at d (run B recs e s) i) (run B recs e s) i (run_sorted B recs e s) h refl)

  -- the code compares pages, and the theory places: within a chip's length they are as good
  pub same_place : (o t u : ℕ) → o ≤ t → t < o + 15 * B → o ≤ u → u < o + 15 * B → page_of B t ≡ page_of B u → t ≡ u
  same_place o t u a b c f e = go (dec_lt u t)
    where
      go : Dec (u < t) → t ≡ u
      go (yes l) = sym (page_inj B u t (omega arith) (omega arith) (sym e))
      go (no l) = page_inj B t u (omega arith) (omega arith) e
