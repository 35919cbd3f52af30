-- Laws of the two forms and of the page of a payload. Assumes nothing.
use mathlib.Core.Path.{◌≡◌, refl, sym, ap, ◌∙◌}
use mathlib.Core.Logic.{◌≢◌}
use mathlib.Core.Bool.{Bool, true, false}
use mathlib.Core.List.{List, [], ◌∷◌, ◌++◌, map}
use Prim.Native.Nat.{ℕ, zero, suc, ◌+◌, ◌-◌, ◌*◌, ◌/◌, ◌%◌, ◌≤◌, ◌<◌}
use native.Mathlib.Nat.{not-suc-le-zero, le_of_suc-le-suc}
use native.Mathlib.Omega.{arith}
use lib.ListN.{length, length-append, length-map, get_or-append}
use lib.Seq.{get_or-append-add}
use lib.Count.{ones}
use lib.Dec.{eqb}
use borrow.Author.Tests.{eq-eqb, ne_eqb, eqb-true, eqb-false}
use Rattle.page.specs.Page.{byte, Bytes, flips, flipped, flipped_form, ones_to, counted, zero_bits, count_form, sound}
use Rattle.page.proofs.All.{all_at, all_of}
use Rattle.page.proofs.Ones.{ones_same, ones_most, ones_last}

-- a test that holds of 255 minus x alone, however the code writes it
pub flip_test : (x y : ℕ) (t : Bool) → (t ≡ true → x + y ≡ 255) → (t ≡ false → x + y ≢ 255) → t ≡ flips x y
flip_test x y true is not = sym (eq-eqb (x + y) 255 (is refl))
flip_test x y false is not = sym (ne_eqb (x + y) 255 (not refl))

-- ---- FORM 1: what a flipped page says of each pair of bytes
pub flipped_at : (pg : List ℕ) → flipped pg ≡ true → (i : ℕ) → i < 128 → byte pg i + byte pg (128 + i) ≡ 255
unfolding flipped
flipped_at pg h i l = eqb-true _ _ (all_at _ 128 i l h)

pub flipped_of : (pg : List ℕ) → ((i : ℕ) → i < 128 → byte pg i + byte pg (128 + i) ≡ 255) → flipped pg ≡ true
unfolding flipped
flipped_of pg h = all_of _ 128 (λ i l. eq-eqb _ _ (h i l))

flip_byte : (l : List ℕ) (i : ℕ) → i < length l → byte (map (λ x. 255 - x) l) i ≡ 255 - byte l i
flip_byte [] i h = absurd (not-suc-le-zero h)
flip_byte (x ∷ l) zero h = refl
flip_byte (x ∷ l) (suc i) h = flip_byte l i (le_of_suc-le-suc h)

-- the page of a payload
module _ (payload : List ℕ) (h : length payload ≡ 128) where
  pub length_flipped : length (flipped_form payload) ≡ 256
  unfolding flipped_form
  length_flipped = simp (length-append, length-map) (omega arith)

  pub flipped_low : (i : ℕ) → i < 128 → byte (flipped_form payload) i ≡ byte payload i
  unfolding flipped_form
  flipped_low i l = get_or-append payload _ 0 i (omega arith)

  pub flipped_high : (i : ℕ) → i < 128 → byte (flipped_form payload) (128 + i) ≡ 255 - byte payload i
  unfolding flipped_form
  flipped_high i l = ap (λ (n : ℕ). byte (payload ++ map (λ x. 255 - x) payload) (n + i)) (sym h) ∙ get_or-append-add payload _ i 0 ∙ flip_byte payload i (omega arith)

  pub flipped_sound : Bytes payload → byte payload 0 ≡ 1 → sound (flipped_form payload) ≡ true
  unfolding sound
  flipped_sound b one =
      rw (flipped_low 0 (omega arith) ∙ one) (flipped_of (flipped_form payload) (λ i l. rw (flipped_low i l, flipped_high i l) (omega (arith, b i))))

-- ---- FORM 2
pub counted_at : (pg : List ℕ) → counted pg ≡ true → 256 * byte pg 254 + byte pg 255 + ones_to pg 254 ≡ 2032
unfolding counted
counted_at pg h = eqb-true _ _ h

-- the test of the code, with the 1 bits of all 256 bytes
pub count_test : (pg : List ℕ) (n : ℕ) (t : Bool) → n ≡ ones_to pg 256
    → t ≡ eqb (256 * byte pg 254 + byte pg 255 + n) (2032 + ones (byte pg 254) + ones (byte pg 255)) → t ≡ counted pg
unfolding counted
count_test pg n t e h = go t h
  where
    go : (b : Bool) → b ≡ eqb (256 * byte pg 254 + byte pg 255 + n) (2032 + ones (byte pg 254) + ones (byte pg 255))
        → b ≡ eqb (256 * byte pg 254 + byte pg 255 + ones_to pg 254) 2032
    go true q =
        let k : 256 * byte pg 254 + byte pg 255 + n ≡ 2032 + ones (byte pg 254) + ones (byte pg 255) = eqb-true _ _ (sym q) in
        sym (eq-eqb (256 * byte pg 254 + byte pg 255 + ones_to pg 254) 2032 (omega (arith, ones_last pg)))
    go false q =
        let k : 256 * byte pg 254 + byte pg 255 + n ≢ 2032 + ones (byte pg 254) + ones (byte pg 255) = eqb-false _ _ (sym q) in
        sym (ne_eqb (256 * byte pg 254 + byte pg 255 + ones_to pg 254) 2032 (λ d. k (omega (arith, ones_last pg))))

-- the page of a payload
module _ (payload : List ℕ) (h : length payload ≡ 254) where
  pub length_counted : length (count_form payload) ≡ 256
  unfolding count_form
  length_counted = omega (arith, length-append payload (zero_bits payload / 256 ∷ zero_bits payload % 256 ∷ []))

  pub counted_low : (i : ℕ) → i < 254 → byte (count_form payload) i ≡ byte payload i
  unfolding count_form
  counted_low i l = get_or-append payload _ 0 i (omega arith)

  behind : (i : ℕ) → byte (count_form payload) (254 + i) ≡ byte (zero_bits payload / 256 ∷ zero_bits payload % 256 ∷ []) i
  unfolding count_form
  behind i = ap (λ (n : ℕ). byte (payload ++ (zero_bits payload / 256 ∷ zero_bits payload % 256 ∷ [])) (n + i)) (sym h) ∙ get_or-append-add payload _ i 0

  pub counted_sound : Bytes payload → byte payload 0 ≡ 2 → sound (count_form payload) ≡ true
  unfolding sound counted
  counted_sound b is-two =
      let same : ones_to (count_form payload) 254 ≡ ones_to payload 254 = ones_same _ _ 254 counted_low in
      let high : byte (count_form payload) 254 ≡ zero_bits payload / 256 = behind 0 in
      let low : byte (count_form payload) 255 ≡ zero_bits payload % 256 = behind 1 in
      let most : ones_to payload 254 ≤ 8 * 254 = ones_most payload b 254 in
      let first : byte (count_form payload) 0 ≡ 2 = counted_low 0 (omega arith) ∙ is-two in
      rw first (eq-eqb (256 * byte (count_form payload) 254 + byte (count_form payload) 255 + ones_to (count_form payload) 254) 2032 (omega arith))

-- ---- THE TEST FOR SOUND, as the code makes it
module _ (pg : List ℕ) where
  pub sound_one_lem : byte pg 0 ≡ 1 → (t : Bool) → t ≡ flipped pg → t ≡ sound pg
  unfolding sound
  sound_one_lem e t h = rw e h

  pub sound_two : byte pg 0 ≡ 2 → (t : Bool) → t ≡ counted pg → t ≡ sound pg
  unfolding sound
  sound_two e t h = rw e h

  pub sound_neither : byte pg 0 ≢ 1 → byte pg 0 ≢ 2 → false ≡ sound pg
  unfolding sound
  sound_neither a b = rw (ne_eqb (byte pg 0) 1 a, ne_eqb (byte pg 0) 2 b)
