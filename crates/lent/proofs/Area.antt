-- The work area as a list: the index is lent, and four words are put down. Assumes nothing.
use mathlib.Core.Path.{◌≡◌, sym, ap, ◌∙◌}
use mathlib.Core.List.{List, ◌++◌}
use Prim.Native.Nat.{ℕ, ◌≤◌, ◌<◌}
use native.Mathlib.Omega.{arith}
use lib.ListN.{length, take, drop, set, get_or, length-set, length-append}
use lib.Seq.{length-take-le, take-append-le, drop_at, drop-set-lt, get_or-take, get_or-set_same, get_or-set_other}
use borrow.Rule.Slice.PartMut.{mid_of, post_of, put_mid, put_same, take_put}
use Rattle.lent.specs.Area.{Sized}

-- ---- the head, the next place, the number of keys and the cursor are put down
abbrev pub downed : List ℕ → ℕ → ℕ → ℕ → ℕ → List ℕ
downed v h x n p = set (set (set (set v 1 h) 2 x) 3 n) 4 p

module _ (v : List ℕ) (h x n p : ℕ) where
  -- a word before them, and the words from 16 on, stay
  pub downed_0 : get_or (downed v h x n p) 0 0 ≡ get_or v 0 0
  downed_0 =
      get_or-set_other (set (set (set v 1 h) 2 x) 3 n) 4 0 p 0 (λ e. omega arith) ∙ get_or-set_other (set (set v 1 h) 2 x) 3 0 n 0 (λ e. omega arith)
      ∙ get_or-set_other (set v 1 h) 2 0 x 0 (λ e. omega arith) ∙ get_or-set_other v 1 0 h 0 (λ e. omega arith)

  pub downed_16 : drop 16 (downed v h x n p) ≡ drop 16 v
  downed_16 =
      drop-set-lt 16 (set (set (set v 1 h) 2 x) 3 n) 4 p (omega arith) ∙ drop-set-lt 16 (set (set v 1 h) 2 x) 3 n (omega arith)
      ∙ drop-set-lt 16 (set v 1 h) 2 x (omega arith) ∙ drop-set-lt 16 v 1 h (omega arith)

  module _ (l : 16 ≤ length v) where
    pub downed_1 : get_or (downed v h x n p) 1 0 ≡ h
    downed_1 =
        get_or-set_other (set (set (set v 1 h) 2 x) 3 n) 4 1 p 0 (λ e. omega arith) ∙ get_or-set_other (set (set v 1 h) 2 x) 3 1 n 0 (λ e. omega arith)
        ∙ get_or-set_other (set v 1 h) 2 1 x 0 (λ e. omega arith) ∙ get_or-set_same v 1 h 0 (omega arith)

    pub downed_2 : get_or (downed v h x n p) 2 0 ≡ x
    downed_2 =
        get_or-set_other (set (set (set v 1 h) 2 x) 3 n) 4 2 p 0 (λ e. omega arith) ∙ get_or-set_other (set (set v 1 h) 2 x) 3 2 n 0 (λ e. omega arith)
        ∙ get_or-set_same (set v 1 h) 2 x 0 (simp length-set (omega arith))

    pub downed_3 : get_or (downed v h x n p) 3 0 ≡ n
    downed_3 =
        get_or-set_other (set (set (set v 1 h) 2 x) 3 n) 4 3 p 0 (λ e. omega arith) ∙ get_or-set_same (set (set v 1 h) 2 x) 3 n 0 (simp length-set (omega arith))

    pub downed_4 : get_or (downed v h x n p) 4 0 ≡ p
    downed_4 = get_or-set_same (set (set (set v 1 h) 2 x) 3 n) 4 p 0 (simp length-set (omega arith))

-- ---- the words from 16 on were lent, and have come back as ix
module _ (w ix : List ℕ) (k : ℕ) (l : 16 ≤ length w) where
  pub back_long : 16 ≤ length (put_mid 16 k w ix)
  back_long = omega (arith, length-append (take 16 w) (ix ++ post_of 16 k w), length-take-le 16 w l)

  -- they begin with it
  pub back_index : (n : ℕ) → n ≤ length ix → take n (drop 16 (put_mid 16 k w ix)) ≡ take n ix
  back_index n m = ap (take n) (drop_at (take 16 w) (ix ++ post_of 16 k w) 16 (length-take-le 16 w l)) ∙ take-append-le n ix (post_of 16 k w) m

-- a part of the work area that comes back as it was leaves the area as it was
pub lent_same : (a k : ℕ) (w ix : List ℕ) → ix ≡ mid_of a k w → put_mid a k w ix ≡ w
lent_same a k w ix e = ap (put_mid a k w) e ∙ put_same a k w

-- what lies before a part that is lent stays
pub lent_before : (a k i : ℕ) (w ix : List ℕ) → i < a → a ≤ length w → get_or (put_mid a k w ix) i 0 ≡ get_or w i 0
lent_before a k i w ix h g =
    sym (get_or-take a (put_mid a k w ix) i 0 h) ∙ ap (λ (l : List ℕ). get_or l i 0) (take_put a k w ix g) ∙ get_or-take a w i 0 h

-- the mark is stored
pub marked : (w : List ℕ) (m : ℕ) → 16 ≤ length w → get_or (set w 0 m) 0 0 ≡ m
marked w m h = get_or-set_same w 0 m 0 (omega arith)

-- the same store leaves the lengths allowed
pub sized_marked : (c w : List ℕ) (m : ℕ) → Sized c w → Sized c (set w 0 m)
sized_marked c w m s =
    record { whole = s.whole; some_blocks = s.some_blocks; few_blocks = s.few_blocks; long = rw (length-set w 0 m) s.long }
