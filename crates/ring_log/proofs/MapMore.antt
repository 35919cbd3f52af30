-- More of maps: sums over the values, a map of the values, the place of a key in the list, and a value put again.
-- Assumes nothing.
use mathlib.Core.Path.{◌≡◌, refl, sym, ap, ◌∙◌}
use mathlib.Core.List.{[], ◌∷◌, ◌++◌}
use mathlib.Core.Option.{Option, none, some}
use Prim.Native.Nat.{ℕ, zero, suc, ◌+◌, ◌<◌}
use native.Mathlib.Nat.{le_of_suc-le-suc, not-suc-le-zero}
use native.Mathlib.Omega.{arith}
use lib.ListN.{length, get_or}
use Rattle.ring_log.specs.Key.{Key, ◌≺◌, Tri, tri<, tri≡, tri>, tri, key≟}
use Rattle.ring_log.specs.Map.{Map, lookup, put, alter, Above, Sorted, total, map_o, map_v}
use Rattle.ring_log.proofs.MapLaws.{Below, All, or_zero, some≢none, lookup_here, lookup_there, lookup_above, lookup_same, lookup_other, above_trans, sorted_alter, ext, alter-<, alter-≡, alter->, alter_cases}
use Rattle.ring_log.proofs.KeyLaws.{≺_ne'}

module _ {A : Type 0} where
  -- ---- a sum over the map, before and after: with f = 1 it is the law of the count

  total_put : (f : A → ℕ) (k : Key) (o : Option A) (m : Map A) → total f (put k o m) ≡ or_zero f o + total f m
  total_put f k none m = omega arith
  total_put f k (some v) m = refl

  -- the sum after `alter`: less what the key had, and more what it has
  pub total_alter : (f : A → ℕ) (k : Key) (o : Option A) (m : Map A) → Sorted m → total f (alter k o m) + or_zero f (lookup k m) ≡ total f m + or_zero f o
  unfolding alter lookup
  total_alter f k o [] s = omega (arith, total_put f k o [])
  total_alter f k o (p ∷ m) s =
      alter_cases (λ n. total f n + or_zero f (lookup k (p ∷ m)) ≡ total f (p ∷ m) + or_zero f o) k o p m
      (λ e. rw (lookup_above k (p ∷ m) (e, above_trans k p.0 m e s.0)) (omega (arith, total_put f k o (p ∷ m))))
      (λ e. rw (lookup_here k p m e) (omega (arith, total_put f k o m)))
      (λ e. rw (lookup_there k p m (≺_ne' p.0 k e)) (omega (arith, total_alter f k o m s.1)))

  -- the sum of ones is the count
  pub total_ones : (m : Map A) → total (λ a. 1) m ≡ length m
  total_ones [] = refl
  total_ones (p ∷ m) = omega (arith, total_ones m)

  -- ---- what holds of each value

  -- what holds of each value that a key has holds of all
  pub all_lookup : (P : A → Type 0) (m : Map A) → Sorted m → ((k : Key) (a : A) → lookup k m ≡ some a → P a) → All P m
  all_lookup P [] s h = tt
  all_lookup P (p ∷ m) s h = (
    h p.0 p.1 (lookup_here p.0 p m refl),
    all_lookup P m s.1 (λ k a e. h k a (lookup_there k p m (λ d. some≢none (sym e ∙ rw d (lookup_above p.0 m s.0))) ∙ e)),
  )

  -- one more for each value: the count more
  pub total_step : (f g : A → ℕ) (m : Map A) → All (λ a. g a ≡ f a + 1) m → total g m ≡ total f m + length m
  total_step f g [] h = omega arith
  total_step f g (p ∷ m) h = omega (arith, h.0, total_step f g m h.1)

  -- ---- to put what is there changes nothing

  -- to give a key what it has changes nothing
  pub alter_idle : (k : Key) (o : Option A) (m : Map A) → Sorted m → lookup k m ≡ o → alter k o m ≡ m
  alter_idle k o m s e = ext (alter k o m) m (sorted_alter k o m s) s (λ j. go j (key≟ j k))
    where
      go : (j : Key) → Dec (j ≡ k) → lookup j (alter k o m) ≡ lookup j m
      go j (yes d) = rw d (lookup_same k o m s ∙ sym e)
      go j (no d) = lookup_other j k o m d

  -- ---- the place of a key: what a binary search finds

  -- k has no value, and stands between a and b
  pub alter_between : (k : Key) (o : Option A) (a b : Map A) → Below k a → Above k b → alter k o (a ++ b) ≡ a ++ put k o b
  unfolding alter
  alter_between k o [] [] h g = refl
  alter_between k o [] (q ∷ b) h g = alter-< k o q b g.0
  alter_between k o (p ∷ a) b h g = alter-> k o p (a ++ b) h.0 ∙ ap (λ (l : Map A). p ∷ l) (alter_between k o a b h.1 g)

  -- k is the key of q, behind a
  pub alter_at : (k : Key) (o : Option A) (a : Map A) (q : Key × A) (b : Map A) → Below k a → k ≡ q.0 → alter k o (a ++ q ∷ b) ≡ a ++ put k o b
  alter_at k o [] q b h e = alter-≡ k o q b e
  alter_at k o (p ∷ a) q b h e = alter-> k o p (a ++ q ∷ b) h.0 ∙ ap (λ (l : Map A). p ∷ l) (alter_at k o a q b h.1 e)

  -- so it has none
  pub lookup_between : (k : Key) (a b : Map A) → Below k a → Above k b → lookup k (a ++ b) ≡ none
  lookup_between k [] b h g = lookup_above k b g
  lookup_between k (p ∷ a) b h g = lookup_there k p (a ++ b) (≺_ne' p.0 k h.0) ∙ lookup_between k a b h.1 g

  -- so it has that of q
  pub lookup_at : (k : Key) (a : Map A) (q : Key × A) (b : Map A) → Below k a → k ≡ q.0 → lookup k (a ++ q ∷ b) ≡ some q.1
  lookup_at k [] q b h e = lookup_here k q b e
  lookup_at k (p ∷ a) q b h e = lookup_there k p (a ++ q ∷ b) (≺_ne' p.0 k h.0) ∙ lookup_at k a q b h.1 e

  above_at : (k : Key) (m : Map A) (j : ℕ) (d : Key × A) → Above k m → j < length m → k ≺ (get_or m j d).0
  above_at k [] j d h b = absurd (not-suc-le-zero b)
  above_at k (p ∷ m) zero d h b = h.0
  above_at k (p ∷ m) (suc j) d h b = above_at k m j d h.1 (le_of_suc-le-suc b)

  -- the keys rise with the places
  pub sorted_at : (m : Map A) (i j : ℕ) (d : Key × A) → Sorted m → i < j → j < length m → (get_or m i d).0 ≺ (get_or m j d).0
  sorted_at [] i j d s h b = absurd (not-suc-le-zero b)
  sorted_at (p ∷ m) i zero d s h b = absurd (not-suc-le-zero h)
  sorted_at (p ∷ m) zero (suc j) d s h b = above_at p.0 m j d s.0 (le_of_suc-le-suc b)
  sorted_at (p ∷ m) (suc i) (suc j) d s h b = sorted_at m i j d s.1 (le_of_suc-le-suc h) (le_of_suc-le-suc b)

module _ {A C : Type 0} (f : A → C) where
  -- f of the values, and a pair in front
  pub map_v_put : (k : Key) (o : Option A) (m : Map A) → map_v f (put k o m) ≡ put k (map_o f o) (map_v f m)
  map_v_put k none m = refl
  map_v_put k (some v) m = refl

  -- f of the values of an altered map
  pub map_v_alter : (k : Key) (o : Option A) (m : Map A) → map_v f (alter k o m) ≡ alter k (map_o f o) (map_v f m)
  unfolding alter
  map_v_alter k o [] = map_v_put k o []
  map_v_alter k o (p ∷ m) = go (tri k p.0) (map_v_alter k o m)
    where
      go : Tri k p.0 → map_v f (alter k o m) ≡ alter k (map_o f o) (map_v f m) → map_v f (alter k o (p ∷ m)) ≡ alter k (map_o f o) (map_v f (p ∷ m))
      go (tri< e) ih = ap (map_v f) (alter-< k o p m e) ∙ map_v_put k o (p ∷ m) ∙ sym (alter-< k (map_o f o) (p.0, f p.1) (map_v f m) e)
      go (tri≡ e) ih = ap (map_v f) (alter-≡ k o p m e) ∙ map_v_put k o m ∙ sym (alter-≡ k (map_o f o) (p.0, f p.1) (map_v f m) e)
      go (tri> e) ih =
          ap (map_v f) (alter-> k o p m e)
          ∙ ap (λ (l : Map C). (p.0, f p.1) ∷ l) ih
          ∙ sym (alter-> k (map_o f o) (p.0, f p.1) (map_v f m) e)

  -- what a key has there
  pub lookup_map_v : (k : Key) (m : Map A) → lookup k (map_v f m) ≡ map_o f (lookup k m)
  unfolding lookup
  lookup_map_v k [] = refl
  lookup_map_v k (p ∷ m) = go (key≟ k p.0) (lookup_map_v k m)
    where
      go : Dec (k ≡ p.0) → lookup k (map_v f m) ≡ map_o f (lookup k m) → lookup k (map_v f (p ∷ m)) ≡ map_o f (lookup k (p ∷ m))
      go (yes e) ih = lookup_here k (p.0, f p.1) (map_v f m) e ∙ ap (map_o f) (sym (lookup_here k p m e))
      go (no e) ih = lookup_there k (p.0, f p.1) (map_v f m) e ∙ ih ∙ ap (map_o f) (sym (lookup_there k p m e))

  -- the count is the same
  pub length_map_v : (m : Map A) → length (map_v f m) ≡ length m
  length_map_v [] = refl
  length_map_v (p ∷ m) = ap suc (length_map_v m)

  above_map_v : (k : Key) (m : Map A) → Above k m → Above k (map_v f m)
  above_map_v k [] h = tt
  above_map_v k (p ∷ m) h = (h.0, above_map_v k m h.1)

  -- it is sorted as the map was
  pub sorted_map_v : (m : Map A) → Sorted m → Sorted (map_v f m)
  sorted_map_v [] s = tt
  sorted_map_v (p ∷ m) s = (above_map_v p.0 m s.0, sorted_map_v m s.1)
