-- A binary search: all keys before lo come before k, and all from hi on after it. Assumes nothing.
use mathlib.Core.Path.{◌≡◌, refl, sym, ◌∙◌, subst}
use mathlib.Core.Logic.{◌⊎◌, inl, inr}
use mathlib.Core.List.{List, [], ◌∷◌, map}
use Prim.Native.Nat.{ℕ, zero, suc, ◌+◌, ◌/◌, ◌≤◌, ◌<◌, min}
use native.Mathlib.Nat.{le_of_suc-le-suc, not-suc-le-zero, eq-or-lt_of_le}
use native.Mathlib.Omega.{arith}
use lib.ListN.{length, take, get_or, length-map}
use Rattle.std.specs.Ordering.{nat_cmp}
use Rattle.std.proofs.lemmas.Cmp.{ranked, by_ranked}
use Rattle.ring_log.proofs.KeyPlaces.{≺_at, ≺_end, ≡_end}
use Rattle.record.specs.Record.{key_at}
use Rattle.ring_log.specs.Key.{Key, ◌≺◌}
use Rattle.ring_log.proofs.KeyLaws.{≺_trans}
use Rattle.index.specs.Index.{keys_of, Ordered}
use Rattle.index.specs.Answers.{ComparedBy, Compared, Finds}
use Rattle.std.specs.declared.cmp.Ordering.{Ordering}
use Rattle.std.specs.declared.cmp.Ordering.TheVariants.{Less, Equal, Greater}
use Rattle.std.specs.Prelude.{Ok, Err}

-- the first i bytes agree, and bytes i, x and y, don't
pub differ : (a b : Key) (i x y : ℕ) (r : Ordering) → take i a ≡ take i b → i < length a → i < length b → x ≡ get_or a i 0 → y ≡ get_or b i 0 → (x ≡ y → ⊥) → r ≡ nat_cmp x y → Compared a b r
differ a b i x y r e h k p q n w =
    by_ranked (x < y) (x ≡ y) (y < x) r (ranked x y r w)
    (λ u l. record { says = subst (ComparedBy a b) (sym u) (≺_at a b i e h k (omega arith)) })
    (λ u l. absurd (n l))
    (λ u l. record { says = subst (ComparedBy a b) (sym u) (≺_at b a i (sym e) k h (omega arith)) })

-- they agree as far as the shorter one goes
pub ended : (a b : Key) (i : ℕ) (r : Ordering) → take i a ≡ take i b → i ≡ min (length a) (length b) → r ≡ nat_cmp (length a) (length b) → Compared a b r
ended a b i r e h w =
    by_ranked (length a < length b) (length a ≡ length b) (length b < length a) r (ranked (length a) (length b) r w)
    (λ u l. record { says = subst (ComparedBy a b) (sym u) (≺_end a b i e (omega arith) (omega arith)) })
    (λ u l. record { says = subst (ComparedBy a b) (sym u) (≡_end a b i e (omega arith) (omega arith)) })
    (λ u l. record { says = subst (ComparedBy a b) (sym u) (≺_end b a i (sym e) (omega arith) (omega arith)) })

nth_map : (f : ℕ → Key) (ps : List ℕ) (i : ℕ) → i < length ps → get_or (map f ps) i [] ≡ f (get_or ps i 0)
nth_map f [] i h = absurd (not-suc-le-zero h)
nth_map f (x ∷ ps) zero h = refl
nth_map f (x ∷ ps) (suc i) h = nth_map f ps i (le_of_suc-le-suc h)

-- the key of entry i
pub nth_key : (c ps : List ℕ) (i : ℕ) → i < length ps → get_or (keys_of c ps) i [] ≡ key_at c (get_or ps i 0)
unfolding keys_of
nth_key c ps i h = nth_map (key_at c) ps i h

-- there is a key for each entry
pub length_keys : (c ps : List ℕ) → length (keys_of c ps) ≡ length ps
unfolding keys_of
length_keys c ps = length-map ps (key_at c)

pub record Bracket (c ps : List ℕ) (k : Key) (lo hi : ℕ) : Type 0 where
  pub below : (j : ℕ) → j < lo → key_at c (get_or ps j 0) ≺ k
  pub above : (j : ℕ) → hi ≤ j → j < length ps → k ≺ key_at c (get_or ps j 0)

-- at first nothing is known
pub bracket_start : (c ps : List ℕ) (k : Key) (n : ℕ) → length ps ≤ n → Bracket c ps k 0 n
bracket_start c ps k n h = record { below = λ j l. absurd (not-suc-le-zero l); above = λ j l m. absurd (omega arith) }

module _ (c ps : List ℕ) (k : Key) (o : Ordered c ps) (lo hi : ℕ) (b : Bracket c ps k lo hi) (m : ℕ) (h : m < length ps) where
  -- the key at m comes before k: so do those before it
  pub bracket_up : key_at c (get_or ps m 0) ≺ k → Bracket c ps k (m + 1) hi
  bracket_up e = record { below = λ j l. go j (eq-or-lt_of_le (omega arith)); above = b.above }
    where
      go : (j : ℕ) → (j ≡ m) ⊎ (j < m) → key_at c (get_or ps j 0) ≺ k
      go j (inl q) = subst (λ (i : ℕ). key_at c (get_or ps i 0) ≺ k) (sym q) e
      go j (inr l) = ≺_trans (key_at c (get_or ps j 0)) (key_at c (get_or ps m 0)) k (o.rising j m l h) e

  -- it comes after k: so do those after it
  pub bracket_down : k ≺ key_at c (get_or ps m 0) → Bracket c ps k lo m
  bracket_down e = record { below = b.below; above = λ j l i. go j i (eq-or-lt_of_le l) }
    where
      go : (j : ℕ) → j < length ps → (m ≡ j) ⊎ (m < j) → k ≺ key_at c (get_or ps j 0)
      go j i (inl q) = subst (λ (x : ℕ). k ≺ key_at c (get_or ps x 0)) q e
      go j i (inr l) = ≺_trans k (key_at c (get_or ps m 0)) (key_at c (get_or ps j 0)) e (o.rising m j l i)

  -- it is k
  pub found_at : key_at c (get_or ps m 0) ≡ k → Finds (keys_of c ps) k (Ok m)
  found_at e = record { says = (subst (λ (n : ℕ). m < n) (sym (length_keys c ps)) h, sym (nth_key c ps m h ∙ e)) }

-- nothing is left between: k is none of the keys
pub found_none : (c ps : List ℕ) (k : Key) (lo hi : ℕ) → Bracket c ps k lo hi → hi ≤ lo → lo ≤ length ps → Finds (keys_of c ps) k (Err lo)
found_none c ps k lo hi b h l =
    record {
      says = (
        omega (arith, length_keys c ps),
        λ j i. subst (λ (x : Key). x ≺ k) (sym (nth_key c ps j (omega arith))) (b.below j i),
        λ j i m.
            let m₂ : j < length ps = omega (arith, length_keys c ps) in
            subst (λ (x : Key). k ≺ x) (sym (nth_key c ps j m₂)) (b.above j (omega arith) m₂),
      );
    }

-- ---- a turn of the loop: the key on the page that is the entry in the middle, m, was compared with k
module _ (c ix : List ℕ) (k : Key) (m : ℕ) (h : m < length ix) (o : Ordered c ix) where
  -- that page lies on the chip
  pub turn_inside : length c / 256 ≤ get_or ix m 0 → ⊥
  turn_inside l = omega (arith, o.inside m h)

  module _ (r : Ordering) (d : Compared (key_at c (get_or ix m 0)) k r) (lo hi : ℕ) (b : Bracket c ix k lo hi) where
    said : (s : Ordering) → r ≡ s → ComparedBy (key_at c (get_or ix m 0)) k s
    said s w = subst (ComparedBy (key_at c (get_or ix m 0)) k) w d.says

    pub turn_up : r ≡ Less → Bracket c ix k (m + 1) hi
    turn_up w = bracket_up c ix k o lo hi b m h (said Less w)

    pub turn_down : r ≡ Greater → Bracket c ix k lo m
    turn_down w = bracket_down c ix k o lo hi b m h (said Greater w)

    pub turn_found : r ≡ Equal → Finds (keys_of c ix) k (Ok m)
    turn_found w = found_at c ix k o lo hi b m h (said Equal w)
