-- A run of bytes in the place of others: what a part of a slice leaves when it comes back, and what the result's parts are.
-- Assumes nothing.
use mathlib.Core.Path.{◌≡◌, refl, sym, ap, ◌∙◌}
use mathlib.Core.List.{List, [], ◌∷◌, ◌++◌}
use Prim.Native.Nat.{ℕ, zero, suc, ◌+◌, ◌-◌, ◌≤◌}
use native.Mathlib.Omega.{arith}
use lib.ListN.{length, take, drop, length-append, length-drop}
use native.Mathlib.Nat.{zero-add, suc-add}
use lib.Seq.{take-nil, take_at, drop_at, drop-drop, take-take, length-take-le, take-append-le, drop-append-le}
use borrow.Rule.Slice.PartMut.{put_mid, mid_of, Post-is}
use Rattle.chip.specs.Chip.{splice}

-- ---- a part that was lent, `&mut c[a..a + k]`, has come back as ys
module _ (a k : ℕ) (c ys : List ℕ) (h : length ys ≡ k) where
  pub part_back : put_mid a (a + k - a) c ys ≡ splice c a ys
  unfolding splice
  part_back =
      ap (λ (l : List ℕ). take a c ++ (ys ++ l)) (Post-is a (a + k) c (omega arith))
      ∙ ap (λ (n : ℕ). take a c ++ (ys ++ drop (a + n) c)) (sym h)

pub part_out : (a k : ℕ) (c : List ℕ) → mid_of a (a + k - a) c ≡ take k (drop a c)
part_out a k c =
    let e : a + k - a ≡ k = omega arith in
    ap (λ (n : ℕ). take n (drop a c)) e

-- ---- the parts of the result
module _ (c : List ℕ) (a : ℕ) (xs : List ℕ) (h : a + length xs ≤ length c) where
  long : length (take a c) ≡ a
  long = length-take-le a c (omega arith)

  pub length_splice : length (splice c a xs) ≡ length c
  unfolding splice
  length_splice = simp (length-append, length-drop) (omega (arith, long))

  -- what lies before
  pub splice_before : take a (splice c a xs) ≡ take a c
  unfolding splice
  splice_before = take_at (take a c) _ a long

  -- what lies there
  pub splice_at : drop a (splice c a xs) ≡ xs ++ drop (a + length xs) c
  unfolding splice
  splice_at = drop_at (take a c) _ a long

  -- what lies after
  pub splice_after : drop (a + length xs) (splice c a xs) ≡ drop (a + length xs) c
  splice_after =
      sym (drop-drop (length xs) a (splice c a xs)) ∙ ap (λ (l : List ℕ). drop (length xs) l) splice_at
      ∙ drop_at xs _ (length xs) refl

-- ---- a part of a list goes by what lies before its end, and by what lies after its start

take_drop : (n m : ℕ) (l : List ℕ) → take n (drop m l) ≡ drop m (take (m + n) l)
take_drop n zero l = simp zero-add
take_drop n (suc m) [] = take-nil n ∙ sym (ap (λ (l : List ℕ). drop (suc m) l) (take-nil (suc m + n)))
take_drop n (suc m) (x ∷ l) = take_drop n m l ∙ ap (λ (k : ℕ). drop (suc m) (take k (x ∷ l))) (sym (suc-add m n))

pub part_early : (x y : List ℕ) (e m n : ℕ) → m + n ≤ e → take e x ≡ take e y → take n (drop m x) ≡ take n (drop m y)
part_early x y e m n h p =
    take_drop n m x ∙ ap (λ (l : List ℕ). drop m l) (sym (take-take (m + n) e x h) ∙ ap (λ (l : List ℕ). take (m + n) l) p ∙ take-take (m + n) e y h)
    ∙ sym (take_drop n m y)

pub part_late : (x y : List ℕ) (e m n : ℕ) → e ≤ m → drop e x ≡ drop e y → take n (drop m x) ≡ take n (drop m y)
part_late x y e m n h p =
    let k : e + (m - e) ≡ m = omega arith in
    ap (λ (j : ℕ). take n (drop j x)) (sym k) ∙ ap (λ (l : List ℕ). take n l) (sym (drop-drop (m - e) e x) ∙ ap (λ (l : List ℕ). drop (m - e) l) p ∙ drop-drop (m - e) e y)
    ∙ ap (λ (j : ℕ). take n (drop j y)) k

-- a part of what was put in
pub splice_part : (c : List ℕ) (a : ℕ) (xs : List ℕ) (m n : ℕ) → a + length xs ≤ length c → m + n ≤ length xs
    → take n (drop (a + m) (splice c a xs)) ≡ take n (drop m xs)
splice_part c a xs m n h k =
    ap (λ (l : List ℕ). take n l) (sym (drop-drop m a (splice c a xs)) ∙ ap (λ (l : List ℕ). drop m l) (splice_at c a xs h) ∙ drop-append-le m xs _ (omega arith))
    ∙ take-append-le n (drop m xs) _ (simp length-drop (omega arith))

-- a part that lies before or after what was put in
pub splice_early : (c : List ℕ) (a : ℕ) (xs : List ℕ) (m n : ℕ) → a + length xs ≤ length c → m + n ≤ a
    → take n (drop m (splice c a xs)) ≡ take n (drop m c)
splice_early c a xs m n h k = part_early (splice c a xs) c a m n k (splice_before c a xs h)

pub splice_late : (c : List ℕ) (a : ℕ) (xs : List ℕ) (m n : ℕ) → a + length xs ≤ length c → a + length xs ≤ m
    → take n (drop m (splice c a xs)) ≡ take n (drop m c)
splice_late c a xs m n h k = part_late (splice c a xs) c (a + length xs) m n k (splice_after c a xs h)
