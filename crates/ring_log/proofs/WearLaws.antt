-- The sum of ages and the count of values not yet moved: what each step does to them. ONE LAW carries all of it: a place is used, so every value but the one
-- written there is a place older. Assumes nothing.
use mathlib.Core.Path.{◌≡◌, refl, sym, ap, ◌∙◌}
use mathlib.Core.Option.{Option, none, some}
use mathlib.Core.List.{List, [], ◌∷◌}
use mathlib.Core.Bool.{Bool, true, false, cond}
use Prim.Native.Nat.{ℕ, suc, ◌+◌, ◌-◌, ◌*◌, ◌≤◌, ◌<◌}
use native.Mathlib.Nat.{mul-le-mul_left}
use native.Mathlib.Decide.{dec_lt}
use native.Mathlib.Omega.{arith}
use lib.Dec.{leb}
use borrow.Author.Tests.{le-leb, lt-leb}
use lib.ListN.{length}
use Rattle.ring_log.specs.Key.{Key}
use Rattle.ring_log.specs.Map.{Map, lookup, alter, Sorted, total, map_o}
use Rattle.ring_log.specs.Log.{Placed, placed, FIRST, U}
use Rattle.ring_log.specs.Wear.{age, ages, phi, ripe, ripes}
use Rattle.ring_log.proofs.MapLaws.{All, or_zero}
use Rattle.ring_log.proofs.MapMore.{total_alter, total_step, total_ones, all_lookup}

-- every value stands before place n of block number e
abbrev pub Under : ℕ → ℕ → Map Placed → Type 0
Under e n m = (k : Key) (a : Placed) → lookup k m ≡ some a → a.0 < 15 * e + n

-- ---- one value

-- a place is used: it is one older
pub older : (e n : ℕ) (a : Placed) → n < 15 → a.0 < 15 * e + n → age e (suc n) a ≡ age e n a + 1
older e n a l u = omega arith

-- the next block is opened: it is as old as before
turned : (e : ℕ) (a : Placed) → a.0 < 15 * e + 15 → age (e + 1) FIRST a ≡ age e 15 a
turned e a u = omega arith

-- written at place n of block number e: 1
newest : (e n : ℕ) (v : List ℕ) → n < 15 → age e (suc n) (placed (15 * e + n) v) ≡ 1
newest e n v l = omega arith

-- ---- the values older than w

-- a value older than w
pub ripe_yes : (w e n : ℕ) (a : Placed) → w < age e n a → ripe w e n a ≡ 1
ripe_yes w e n a h = rw (le-leb (suc w) (age e n a) h)

-- one that is not
pub ripe_no : (w e n : ℕ) (a : Placed) → age e n a ≤ w → ripe w e n a ≡ 0
ripe_no w e n a h = rw (lt-leb (suc w) (age e n a) (let z : age e n a < suc w = omega arith in z))

-- it stays so while its age and w rise alike
ripe_alike : (w e n w' e' n' : ℕ) (a : Placed) → age e' n' a + w ≡ age e n a + w' → ripe w' e' n' a ≡ ripe w e n a
ripe_alike w e n w' e' n' a h = go (dec_lt w (age e n a))
  where
    go : Dec (w < age e n a) → ripe w' e' n' a ≡ ripe w e n a
    go (yes d) = ripe_yes w' e' n' a (omega arith) ∙ sym (ripe_yes w e n a d)
    go (no d) = ripe_no w' e' n' a (omega arith) ∙ sym (ripe_no w e n a (omega arith))

-- there are at most as many as values
pub ripes_le : (w e n : ℕ) (m : Map Placed) → ripes w e n m ≤ length m
ripes_le w e n [] = omega arith
ripes_le w e n (p ∷ m) = omega (arith, one (leb (suc w) (age e n p.1)), ripes_le w e n m)
  where
    one : (x : Bool) → cond x 1 0 ≤ 1
    one true = omega arith
    one false = omega arith

-- the same sum, where each value counts the same
total_same : (f g : Placed → ℕ) (m : Map Placed) → All (λ a. g a ≡ f a) m → total g m ≡ total f m
total_same f g [] h = refl
total_same f g (p ∷ m) h = omega (arith, h.0, total_same f g m h.1)

module _ (e n : ℕ) (m : Map Placed) (o : Sorted m) (u : Under e n m) where
  -- ---- A PLACE IS USED

  module _ (l : n < 15) where
    -- every value is a place older
    pub ages_older : ages e (suc n) m ≡ ages e n m + length m
    ages_older = total_step (age e n) (age e (suc n)) m (all_lookup (λ a. age e (suc n) a ≡ age e n a + 1) m o (λ k a h. older e n a l (u k a h)))

    pub ripes_older : (w : ℕ) → ripes (suc w) e (suc n) m ≡ ripes w e n m
    ripes_older w =
        total_same (ripe w e n) (ripe (suc w) e (suc n)) m
        (all_lookup (λ a. ripe (suc w) e (suc n) a ≡ ripe w e n a) m o (λ k a h. ripe_alike w e n (suc w) e (suc n) a (omega (arith, older e n a l (u k a h)))))

    -- by a record: one more for each value that there is then
    pub ages_write : (k : Key) (v : Option (List ℕ)) → ages e (suc n) (alter k (map_o (placed (15 * e + n)) v) m) ≤ ages e n m + length (alter k (map_o (placed (15 * e + n)) v) m)
    ages_write k v =
        omega (
          arith,
          ages_older,
          total_alter (age e (suc n)) k (map_o (placed (15 * e + n)) v) m o,
          total_alter (λ (a : Placed). 1) k (map_o (placed (15 * e + n)) v) m o,
          total_ones m,
          total_ones (alter k (map_o (placed (15 * e + n)) v) m),
          new v,
          old (lookup k m) refl,
        )
      where
        new : (v : Option (List ℕ)) → or_zero (age e (suc n)) (map_o (placed (15 * e + n)) v) ≡ or_zero (λ (a : Placed). 1) (map_o (placed (15 * e + n)) v)
        new none = refl
        new (some x) = newest e n x l

        old : (a : Option Placed) → lookup k m ≡ a → or_zero (λ (a : Placed). 1) (lookup k m) ≤ or_zero (age e (suc n)) (lookup k m)
        old none h = rw h (omega arith)
        old (some a) h = let x = u k a h in rw h (omega arith)

    -- by the value that stood at a: it was as old as it was, and is the newest
    module _ (k : Key) (a : Placed) (v : List ℕ) (h : lookup k m ≡ some a) where
      pub ages_moved : ages e (suc n) (alter k (some (placed (15 * e + n) v)) m) + age e n a ≡ ages e n m + length m
      ages_moved =
          let x : or_zero (age e (suc n)) (lookup k m) ≡ age e (suc n) a = ap (or_zero (age e (suc n))) h in
          omega (arith, ages_older, total_alter (age e (suc n)) k (some (placed (15 * e + n) v)) m o, x, older e n a l (u k a h), newest e n v l)

      pub ripes_moved : (w : ℕ) → w < age e n a → ripes (suc w) e (suc n) (alter k (some (placed (15 * e + n) v)) m) + 1 ≡ ripes w e n m
      ripes_moved w y =
          let x : or_zero (ripe (suc w) e (suc n)) (lookup k m) ≡ 1 =
          ap (or_zero (ripe (suc w) e (suc n))) h ∙ ripe_yes (suc w) e (suc n) a (omega (arith, older e n a l (u k a h))) in
          let z : ripe (suc w) e (suc n) (placed (15 * e + n) v) ≡ 0 = ripe_no (suc w) e (suc n) (placed (15 * e + n) v) (omega (arith, newest e n v l)) in
          omega (arith, total_alter (ripe (suc w) e (suc n)) k (some (placed (15 * e + n) v)) m o, x, z, ripes_older w)

  -- ---- THE NEXT BLOCK IS OPENED: no age changes

  module _ (q : n ≡ 15) where
    under : (k : Key) (a : Placed) → lookup k m ≡ some a → a.0 < 15 * e + 15
    under k a h = omega (arith, u k a h)

    pub ages_turn : ages (e + 1) FIRST m ≡ ages e 15 m
    ages_turn = total_same (age e 15) (age (e + 1) FIRST) m (all_lookup (λ a. age (e + 1) FIRST a ≡ age e 15 a) m o (λ k a h. turned e a (under k a h)))

    pub ripes_turn : (w : ℕ) → ripes w (e + 1) FIRST m ≡ ripes w e 15 m
    ripes_turn w =
        total_same (ripe w e 15) (ripe w (e + 1) FIRST) m
        (all_lookup (λ a. ripe w (e + 1) FIRST a ≡ ripe w e 15 a) m o (λ k a h. ripe_alike w e 15 w (e + 1) FIRST a (omega (arith, turned e a (under k a h)))))

-- a copy keeps the count
pub count_copy : (k : Key) (a c : Placed) (m : Map Placed) → Sorted m → lookup k m ≡ some a → length (alter k (some c) m) ≡ length m
count_copy k a c m h l =
    let x : or_zero (λ (x : Placed). 1) (lookup k m) ≡ 1 = ap (or_zero (λ (x : Placed). 1)) l in
    omega (arith, total_alter (λ (x : Placed). 1) k (some c) m h, x, total_ones m, total_ones (alter k (some c) m))

-- ---- the potential

module _ (k : ℕ) where
  -- a call: at most one place more, and each of the 8 k values a place older
  pub phi_call : (used S used' S' : ℕ) → used' ≤ used + 1 → S' ≤ S + 8 * k → phi k used' S' ≤ phi k used S + (U - 1) * k
  phi_call used S used' S' h l = omega (arith, mul-le-mul_left (k * (U - 9)) h)

  -- a value that is moved: it was older than (U - 1) k places
  pub phi_moved : (used S S' L a : ℕ) → L ≤ 8 * k → (U - 1) * k < a → S' + a ≡ S + L → phi k (suc used) S' ≤ phi k used S
  phi_moved used S S' L a l x h = omega arith
