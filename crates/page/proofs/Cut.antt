-- Bytes that noise has changed, and pages that a failure of the power has left. In both forms a sound page is a sum that noise can only raise. Assumes nothing.
use mathlib.Core.Path.{◌≡◌, refl, sym, ap, ◌∙◌, subst}
use mathlib.Core.Bool.{Bool, true, false, cond, true≢false}
use mathlib.Core.List.{List, [], ◌∷◌}
use mathlib.Core.Logic.{◌≢◌, ⊎_elim}
use Prim.Native.Nat.{ℕ, zero, suc, ◌+◌, ◌-◌, ◌%◌, ◌≤◌, ◌<◌, max}
use native.Mathlib.Nat.{le_refl, le-max_left, max-le, mod-eq_of_lt, not-suc-le-zero, le_of_suc-le-suc, eq-or-lt_of_le}
use native.Mathlib.Decide.{dec_lt, ℕ_discrete}
use native.Mathlib.Omega.{arith}
use lib.ListN.{length}
use lib.Seq.{ext_get_or}
use lib.Bits.{bit_or, bit_and, or_step, or_zero_r, or_add_and, and_le_r, and_comm, and_mask}
use lib.Count.{ones}
use lib.Dec.{eqb}
use borrow.Author.Tests.{eq-eqb, eqb-true}
use Rattle.page.specs.Page.{byte, Bytes, blank, flipped, ones_to, counted, sound, each, ors, ands}
use Rattle.page.proofs.All.{all_at, all_of}
use Rattle.page.proofs.Ones.{Gains, or_gains}
use Rattle.page.proofs.Forms.{flipped_at, counted_at}

-- what a blank page says of each byte
pub blank_at_lem : (pg : List ℕ) → blank pg ≡ true → (i : ℕ) → i < 256 → byte pg i ≡ 255
unfolding blank
blank_at_lem pg h i l = eqb-true _ _ (all_at _ 256 i l h)

pub blank_of : (pg : List ℕ) → ((i : ℕ) → i < 256 → byte pg i ≡ 255) → blank pg ≡ true
unfolding blank
blank_of pg h = all_of _ 256 (λ i l. eq-eqb _ _ (h i l))

-- ---- the forms of a sound page
pub data InForm (pg : List ℕ) : Type 0 where
  one : byte pg 0 ≡ 1 → flipped pg ≡ true → InForm pg
  two : byte pg 0 ≡ 2 → counted pg ≡ true → InForm pg

pub in_form : (pg : List ℕ) → sound pg ≡ true → InForm pg
unfolding sound
in_form pg s = go (eqb (byte pg 0) 1) refl (eqb (byte pg 0) 2) refl s
  where
    go : (a : Bool) → eqb (byte pg 0) 1 ≡ a → (b : Bool) → eqb (byte pg 0) 2 ≡ b → cond a (flipped pg) (cond b (counted pg) false) ≡ true → InForm pg
    go true ea b eb h = one (eqb-true _ _ ea) h
    go false ea true eb h = two (eqb-true _ _ eb) h
    go false ea false eb h = absurd (true≢false (sym h))

-- A BLANK PAGE ISN'T SOUND, so a sound page isn't blank
pub blank_not_sound : (pg : List ℕ) → blank pg ≡ true → sound pg ≡ true → ⊥
blank_not_sound pg b s = go (in_form pg s) (blank_at_lem pg b 0 (omega arith))
  where
    go : InForm pg → byte pg 0 ≡ 255 → ⊥
    go (one e h) q = omega arith
    go (two e h) q = omega arith

pub sound_not_blank : (pg : List ℕ) → sound pg ≡ true → blank pg ≡ false
sound_not_blank pg s = go (blank pg) refl
  where
    go : (t : Bool) → blank pg ≡ t → t ≡ false
    go true b = absurd (blank_not_sound pg b s)
    go false b = refl

-- ---- byte by byte
module _ (f : ℕ → ℕ → ℕ) where
  pub length_each : (xs ys : List ℕ) → length (each f xs ys) ≡ length xs
  unfolding each
  length_each [] ys = refl
  length_each (x ∷ xs) [] = ap suc (length_each xs [])
  length_each (x ∷ xs) (y ∷ ys) = ap suc (length_each xs ys)

  pub byte_each : (xs ys : List ℕ) (i : ℕ) → i < length xs → i < length ys → byte (each f xs ys) i ≡ f (byte xs i) (byte ys i)
  unfolding each
  byte_each [] ys i h k = absurd (not-suc-le-zero h)
  byte_each (x ∷ xs) [] i h k = absurd (not-suc-le-zero k)
  byte_each (x ∷ xs) (y ∷ ys) zero h k = refl
  byte_each (x ∷ xs) (y ∷ ys) (suc i) h k = byte_each xs ys i (le_of_suc-le-suc h) (le_of_suc-le-suc k)

-- of a byte of all ones the bitwise and is the other byte
pub and_ones : (y : ℕ) → y < 256 → bit_and 255 y ≡ y
and_ones y small = and_comm 255 y ∙ and_mask y 8 ∙ mod-eq_of_lt small

-- a blank page that is written holds what was given
pub ands_blank : (pg ys : List ℕ) → length pg ≡ 256 → length ys ≡ 256 → blank pg ≡ true → Bytes ys → ands pg ys ≡ ys
ands_blank pg ys h k b small =
    ext_get_or 0 (ands pg ys) ys (length_each bit_and pg ys ∙ h ∙ sym k)
    (λ i l.
    let m : i < 256 = omega (arith, length_each bit_and pg ys) in
    byte_each bit_and pg ys i (omega arith) (omega arith) ∙ ap (λ (x : ℕ). bit_and x (byte ys i)) (blank_at_lem pg b i m) ∙ and_ones (byte ys i) (small i))

-- ---- NOISE
-- each byte is what it was, or some noise
pub ors_at : (xs ns : List ℕ) (i : ℕ) → (n : ℕ) × (byte (ors xs ns) i ≡ bit_or (byte xs i) n)
unfolding each
ors_at [] ns i = (0, sym (or_zero_r 0))
ors_at (x ∷ xs) [] zero = (0, sym (or_zero_r x))
ors_at (x ∷ xs) [] (suc i) = ors_at xs [] i
ors_at (x ∷ xs) (n ∷ ns) zero = (n, refl)
ors_at (x ∷ xs) (n ∷ ns) (suc i) = ors_at xs ns i

-- so it does not fall, and has its 1 bits
pub ors_grow : (xs ns : List ℕ) (i : ℕ) → byte xs i ≤ byte (ors xs ns) i
ors_grow xs ns i =
    let n : ℕ = (ors_at xs ns i).0 in
    omega (arith, (ors_at xs ns i).1, or_add_and (byte xs i) n, and_le_r (byte xs i) n)

pub ors_gain : (xs ns : List ℕ) (i : ℕ) → Gains (byte xs i) (byte (ors xs ns) i)
ors_gain xs ns i = subst (Gains (byte xs i)) (sym (ors_at xs ns i).1) (or_gains (byte xs i) (ors_at xs ns i).0)

pub ones_grow : (xs ns : List ℕ) (n : ℕ) → ones_to xs n ≤ ones_to (ors xs ns) n
unfolding ones_to
ones_grow xs ns zero = le_refl 0
ones_grow xs ns (suc n) = omega (arith, ones_grow xs ns n, (ors_gain xs ns n).more)

-- no 1 bit more, and the bytes are the same
pub ones_kept : (xs ns : List ℕ) (n : ℕ) → ones_to (ors xs ns) n ≡ ones_to xs n → (i : ℕ) → i < n → byte (ors xs ns) i ≡ byte xs i
unfolding ones_to
ones_kept xs ns zero e i l = absurd (not-suc-le-zero l)
ones_kept xs ns (suc n) e i l =
    let a : ones_to xs n ≤ ones_to (ors xs ns) n = ones_grow xs ns n in
    let b : ones (byte xs n) ≤ ones (byte (ors xs ns) n) = (ors_gain xs ns n).more in
    ⊎_elim (λ q. ap (byte (ors xs ns)) q ∙ (ors_gain xs ns n).same (omega arith) ∙ ap (byte xs) (sym q)) (ones_kept xs ns n (omega arith) i)
    (eq-or-lt_of_le (le_of_suc-le-suc l))

-- NO PAGE OF ONE FORM, whole or cut short, PASSES FOR ONE OF THE OTHER: byte 0 of form 1 stays odd, that of form 2 stays 2 or more
pub never_two : (pg ns : List ℕ) → byte pg 0 ≡ 1 → byte (ors pg ns) 0 ≢ 2
never_two pg ns e q =
    let n : ℕ = (ors_at pg ns 0).0 in
    let k : byte (ors pg ns) 0 ≡ bit_or 1 n = (ors_at pg ns 0).1 ∙ ap (λ (x : ℕ). bit_or x n) e in
    let low : 1 ≤ max 1 (n % 2) = le-max_left 1 (n % 2) in
    let high : max 1 (n % 2) ≤ 1 = max-le (le_refl 1) (omega arith) in
    omega (arith, or_step 1 n)

pub never_one : (pg ns : List ℕ) → byte pg 0 ≡ 2 → byte (ors pg ns) 0 ≢ 1
never_one pg ns e q = omega (arith, ors_grow pg ns 0)

-- THE PAGE LAW: a sound page with some 0 bits turned to 1 is not sound unless it is unchanged. So a cut write that reads as sound is exactly what was meant;
-- and a page that an erase of document 03 cut short, if it reads as sound, says what it said
module _ (pg ns : List ℕ) (len : length pg ≡ 256) where
  by_byte : ((i : ℕ) → i < 256 → byte (ors pg ns) i ≡ byte pg i) → ors pg ns ≡ pg
  by_byte h = ext_get_or 0 (ors pg ns) pg (length_each bit_or pg ns) (λ i l. h i (omega (arith, length_each bit_or pg ns)))

  -- each pair of bytes has the sum 255
  flipped_same : flipped pg ≡ true → flipped (ors pg ns) ≡ true → ors pg ns ≡ pg
  flipped_same h s = by_byte (λ i l. go i (dec_lt i 128) l)
    where
      go : (i : ℕ) → Dec (i < 128) → i < 256 → byte (ors pg ns) i ≡ byte pg i
      go i (yes d) l = omega (arith, flipped_at pg h i d, flipped_at (ors pg ns) s i d, ors_grow pg ns i, ors_grow pg ns (128 + i))
      go i (no d) l =
          let j : ℕ = i - 128 in
          let e : 128 + j ≡ i = omega arith in
          let m : j < 128 = omega arith in
          let k : byte (ors pg ns) (128 + j) ≡ byte pg (128 + j) = omega (arith, flipped_at pg h j m, flipped_at (ors pg ns) s j m, ors_grow pg ns j, ors_grow pg ns (128 + j)) in
          ap (byte (ors pg ns)) (sym e) ∙ k ∙ ap (byte pg) e

  -- the count and the 1 bits have the sum 2,032
  counted_same : counted pg ≡ true → counted (ors pg ns) ≡ true → ors pg ns ≡ pg
  counted_same h s =
      let a = counted_at pg h in
      let b = counted_at (ors pg ns) s in
      let high : byte pg 254 ≤ byte (ors pg ns) 254 = ors_grow pg ns 254 in
      let low : byte pg 255 ≤ byte (ors pg ns) 255 = ors_grow pg ns 255 in
      let more : ones_to pg 254 ≤ ones_to (ors pg ns) 254 = ones_grow pg ns 254 in
      by_byte (λ i l. go i (dec_lt i 254) (ℕ_discrete i 254) l (omega arith) (omega arith) (omega arith))
    where
      go : (i : ℕ) → Dec (i < 254) → Dec (i ≡ 254) → i < 256 → ones_to (ors pg ns) 254 ≡ ones_to pg 254 → byte (ors pg ns) 254 ≡ byte pg 254
          → byte (ors pg ns) 255 ≡ byte pg 255 → byte (ors pg ns) i ≡ byte pg i
      go i (yes d) t l o x y = ones_kept pg ns 254 o i d
      go i (no d) (yes e) l o x y = ap (byte (ors pg ns)) e ∙ x ∙ ap (byte pg) (sym e)
      go i (no d) (no t) l o x y = let e : i ≡ 255 = omega arith in ap (byte (ors pg ns)) e ∙ y ∙ ap (byte pg) (sym e)

  pub sound_same : sound pg ≡ true → sound (ors pg ns) ≡ true → ors pg ns ≡ pg
  sound_same h s = go (in_form pg h) (in_form (ors pg ns) s)
    where
      go : InForm pg → InForm (ors pg ns) → ors pg ns ≡ pg
      go (one e f) (one d g) = flipped_same f g
      go (one e f) (two d g) = absurd (never_two pg ns e d)
      go (two e f) (one d g) = absurd (never_one pg ns e d)
      go (two e f) (two d g) = counted_same f g

-- of two lists of one length it is the second, whatever the first is
pub each_second : (xs ys : List ℕ) → length xs ≡ length ys → each (λ x y. y) xs ys ≡ ys
unfolding each
each_second [] [] e = refl
each_second [] (y ∷ ys) e = absurd (omega (arith, e))
each_second (x ∷ xs) [] e = absurd (omega (arith, e))
each_second (x ∷ xs) (y ∷ ys) e = ap (λ (l : List ℕ). y ∷ l) (each_second xs ys (omega (arith, e)))

-- THE PAGE LAW RESTS ON NOISE THAT TURNS BITS ONE WAY: with noise that turned them both ways, a page cut short could read as any other sound page
pub both_ways : (p q : List ℕ) → length p ≡ 256 → length q ≡ 256 → sound q ≡ true → (sound (each (λ x y. y) p q) ≡ true) × (each (λ x y. y) p q ≡ q)
both_ways p q h k s =
    let e : each (λ x y. y) p q ≡ q = each_second p q (h ∙ sym k) in
    (ap sound e ∙ s, e)
