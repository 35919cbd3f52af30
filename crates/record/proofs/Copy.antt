-- A page made anew: it says what the page said that was decoded. Assumes nothing.
use mathlib.Core.Path.{◌≡◌, refl, sym, ap, ap₂, ◌∙◌, subst}
use mathlib.Core.Bool.{true, false}
use mathlib.Core.Option.{Option, none, some}
use mathlib.Core.List.{List, [], ◌∷◌}
use Prim.Native.Nat.{ℕ, zero, suc, ◌+◌, ◌≤◌, min}
use native.Mathlib.Nat.{min-eq_left}
use native.Mathlib.Omega.{arith}
use lib.ListN.{length, take, drop, length-drop}
use lib.Seq.{length-take-le, get_or-drop}
use Rattle.page.specs.Page.{byte, Bytes}
use Rattle.record.specs.Record.{Rec, Proper, value_of, record_of, record_page, rec_of, key_on, value_on, page_or, anew}
use Rattle.record.specs.Kinds.{kind_of}
use Rattle.std.specs.Prelude.{None, Some}
use Rattle.record.specs.declared.Kind.TheVariants.{Value, Note}
use Rattle.record.proofs.Reading.{said, kind_value, kind_note, kind_nothing}
use Rattle.record.proofs.Trip.{record_length, record_bytes, record_says}

-- a part of a list of bytes is one
bytes_drop : (n : ℕ) (l : List ℕ) → Bytes l → Bytes (drop n l)
bytes_drop n l s i = omega (arith, get_or-drop n l i 0, s (n + i))

bytes_take : (n : ℕ) (l : List ℕ) → Bytes l → Bytes (take n l)
bytes_take zero l s i = omega arith
bytes_take (suc n) [] s i = omega arith
bytes_take (suc n) (x ∷ l) s zero = s zero
bytes_take (suc n) (x ∷ l) s (suc i) = bytes_take n l (λ j. s (suc j)) i

module _ (pg : List ℕ) (h : length pg ≡ 256) where
  long : (a n : ℕ) → a + n ≤ 256 → length (take n (drop a pg)) ≡ n
  long a n l = length-take-le n (drop a pg) (omega (arith, length-drop a pg))

  pub key_on_short : length (key_on pg) ≤ 16
  unfolding key_on
  key_on_short = omega (arith, long 16 (min (byte pg 2) 16) (omega arith))

  pub value_on_short : length (value_on pg) ≤ 220
  unfolding value_on
  value_on_short = omega (arith, long 32 (min (byte pg 3) 220) (omega arith))

module _ (pg : List ℕ) (h : length pg ≡ 256) (b : Bytes pg) where
  part : (a n : ℕ) → Bytes (take n (drop a pg))
  part a n = bytes_take n (drop a pg) (bytes_drop a pg b)

  -- what the page says can be written
  pub says_proper : (r : Rec) → rec_of pg ≡ some r → Proper r
  says_proper r e =
      let on = said pg r e in
      let key = long pg h 16 (byte pg 2) (omega (arith, on.short_key)) in
      record {
        some_key = omega (arith, ap length on.key, key, on.some_key);
        short_key = omega (arith, ap length on.key, key, on.short_key);
        short_value = short r.what on.value on.short_value;
        key_bytes = subst Bytes on.key (part 16 (byte pg 2));
        value_bytes = small r.what on.value;
      }
    where
      short : (o : Option (List ℕ)) → ((v : List ℕ) → o ≡ some v → take (byte pg 3) (drop 32 pg) ≡ v) → byte pg 3 ≤ 220 → length (value_of o) ≤ 220
      short none f l = omega arith
      short (some v) f l = omega (arith, ap length (f v refl), long pg h 32 (byte pg 3) (omega arith))

      small : (o : Option (List ℕ)) → ((v : List ℕ) → o ≡ some v → take (byte pg 3) (drop 32 pg) ≡ v) → Bytes (value_of o)
      small none f = λ i. omega arith
      small (some v) f = subst Bytes (f v refl) (part 32 (byte pg 3))

  -- A COPY SAYS WHAT THE PAGE SAYS, and is a page
  by_what : (T : List ℕ → Type 0) → T pg → ((r : Rec) → Proper r → T (record_page r)) → (o : Option Rec) → rec_of pg ≡ o → T (page_or pg o)
  by_what T f g none e = f
  by_what T f g (some r) e = g r (says_proper r e)

  pub anew_length : length (anew pg) ≡ 256
  unfolding anew
  anew_length = by_what (λ (l : List ℕ). length l ≡ 256) h record_length (rec_of pg) refl

  pub anew_bytes : Bytes (anew pg)
  unfolding anew
  anew_bytes = by_what (λ (l : List ℕ). Bytes l) b record_bytes (rec_of pg) refl

  pub anew_says : rec_of (anew pg) ≡ rec_of pg
  unfolding anew
  anew_says = go (rec_of pg) refl
    where
      go : (o : Option Rec) → rec_of pg ≡ o → rec_of (page_or pg o) ≡ o
      go none e = e
      go (some r) e = record_says r (says_proper r e)

-- ---- THE CODE'S THREE CASES
module _ (pg : List ℕ) where
  pub anew_nothing : kind_of (rec_of pg) ≡ None → pg ≡ anew pg
  unfolding anew
  anew_nothing k = ap (page_or pg) (sym (kind_nothing (rec_of pg) k))

  pub anew_value : kind_of (rec_of pg) ≡ Some Value → record_page (record_of false (key_on pg) (value_on pg)) ≡ anew pg
  unfolding anew key_on value_on
  anew_value k =
      let w = kind_value (rec_of pg) k in
      let on = said pg (record_of false w.0 w.1) w.2 in
      let key : key_on pg ≡ w.0 = ap (λ (n : ℕ). take n (drop 16 pg)) (min-eq_left on.short_key) ∙ on.key in
      let value : value_on pg ≡ w.1 = ap (λ (n : ℕ). take n (drop 32 pg)) (min-eq_left on.short_value) ∙ on.value w.1 refl in
      ap₂ (λ (x y : List ℕ). record_page (record_of false x y)) key value ∙ ap (page_or pg) (sym w.2)

  pub anew_note : kind_of (rec_of pg) ≡ Some Note → record_page (record_of true (key_on pg) []) ≡ anew pg
  unfolding anew key_on
  anew_note k =
      let w = kind_note (rec_of pg) k in
      let on = said pg (record_of true w.0 []) w.1 in
      let key : key_on pg ≡ w.0 = ap (λ (n : ℕ). take n (drop 16 pg)) (min-eq_left on.short_key) ∙ on.key in
      ap (λ (x : List ℕ). record_page (record_of true x [])) key ∙ ap (page_or pg) (sym w.1)
