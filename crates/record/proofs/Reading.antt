-- What is known of a page that says something: it is sound, and has its key and value. Assumes nothing.
use mathlib.Core.Path.{◌≡◌, refl, sym, ap, ◌∙◌}
use mathlib.Core.Bool.{Bool, true, false, cond, ◌&&◌}
use mathlib.Core.Option.{Option, none, some}
use mathlib.Core.List.{List, []}
use Prim.Native.Nat.{ℕ, ◌+◌, ◌*◌, ◌≤◌}
use native.Mathlib.Nat.{le_trans, min-eq_left}
use native.Mathlib.Omega.{arith}
use lib.ListN.{length, take, drop, length-drop}
use lib.Seq.{length-take-le}
use lib.Dec.{eqb}
use borrow.Author.Tests.{leb-true, eqb-true}
use Rattle.page.specs.Page.{byte, sound}
use Rattle.page.proofs.All.{and_left, and_right}
use Rattle.chip.specs.Chip.{page_at}
use Rattle.chip.proofs.Pages.{length_page}
use Rattle.record.specs.Record.{Rec, record_of, longest, is_value, is_note, decode, rec_of, rec_at, key_on, key_at, value_on, value_at}
use Rattle.record.specs.Kinds.{kind_of, kind_of_what}
use Rattle.record.specs.declared.Kind.{Kind}
use Rattle.std.specs.Prelude.{Option as Answer}
use Rattle.std.specs.Prelude.{None, Some}
use Rattle.record.specs.declared.Kind.TheVariants.{Value, Note}

pub record Said (pg : List ℕ) (r : Rec) : Type 0 where
  pub is_sound : sound pg ≡ true
  pub some_key : 1 ≤ byte pg 2
  pub short_key : byte pg 2 ≤ 16
  pub key : take (byte pg 2) (drop 16 pg) ≡ r.key
  pub short_value : byte pg 3 ≤ 220
  pub value : (v : List ℕ) → r.what ≡ some v → take (byte pg 3) (drop 32 pg) ≡ v

-- a value is no none, and two values are equal where they are so as options
pub some≢none : {A : Type 0} {a : A} → some a ≡ none → ⊥
some≢none e = let z : ◌≡◌ {A = ℕ} 0 1 = cc in omega arith

pub some_inj : {A : Type 0} {a b : A} → some a ≡ some b → a ≡ b
some_inj e = cc

-- the last three of four tests
last_three : (a b c d : Bool) → (a && b && c && d) ≡ true → (b ≡ true) × (c ≡ true) × (d ≡ true)
last_three a b c d h =
    let abc : (a && b && c) ≡ true = and_left (a && b && c) d h in
    (and_right a b (and_left (a && b) c abc), and_right (a && b) c abc, and_right (a && b && c) d h)

-- in neither form a value is longer
longest_220 : (form : ℕ) → longest form ≤ 220
longest_220 form = go (eqb form 1)
  where
    go : (b : Bool) → cond b 96 220 ≤ 220
    go true = omega arith
    go false = omega arith

le_of_eq_zero : {n m : ℕ} → n ≡ 0 → n ≤ m
le_of_eq_zero e = omega arith

-- the record that a page holds, by the tests: it is sound, a value, a note
abbrev held : List ℕ → Bool → Bool → Bool → Option Rec
held pg s v n =
    cond s
    (cond v (some (record { key = take (byte pg 2) (drop 16 pg); what = some (take (byte pg 3) (drop 32 pg)) }))
    (cond n (some (record { key = take (byte pg 2) (drop 16 pg); what = none })) none))
    none

module _ (pg : List ℕ) (r : Rec) where
  by_tests : (s : Bool) → sound pg ≡ s → (v : Bool) → is_value (byte pg 0) (byte pg 1) (byte pg 2) (byte pg 3) ≡ v → (n : Bool)
      → is_note (byte pg 1) (byte pg 2) (byte pg 3) ≡ n → held pg s v n ≡ some r → Said pg r
  by_tests false es v ev n en e = absurd (some≢none (sym e))
  by_tests true es false ev false en e = absurd (some≢none (sym e))
  by_tests true es true ev n en e =
      let t = last_three (eqb (byte pg 1) 1) _ _ _ ev in
      record {
        is_sound = es;
        some_key = leb-true _ _ t.0;
        short_key = leb-true _ _ t.1;
        key = ap (λ (x : Rec). x.key) (some_inj e);
        short_value = le_trans (leb-true _ _ t.2) (longest_220 (byte pg 0));
        value = λ v q. some_inj (ap (λ (x : Rec). x.what) (some_inj e) ∙ q);
      }
  by_tests true es false ev true en e =
      let t = last_three (eqb (byte pg 1) 2) _ _ _ en in
      record {
        is_sound = es;
        some_key = leb-true _ _ t.0;
        short_key = leb-true _ _ t.1;
        key = ap (λ (x : Rec). x.key) (some_inj e);
        short_value = le_of_eq_zero (eqb-true (byte pg 3) 0 t.2);
        value = λ v q. absurd (some≢none (sym (ap (λ (x : Rec). x.what) (some_inj e) ∙ q)));
      }

  pub said : rec_of pg ≡ some r → Said pg r
  unfolding rec_of decode
  said h = by_tests (sound pg) refl _ refl _ refl h

-- ---- PAGE p OF A CHIP SAYS r
module _ (c : List ℕ) (p : ℕ) (r : Rec) (e : rec_at c p ≡ some r) where
  on_page : Said (page_at c p) r
  unfolding rec_at
  on_page = said (page_at c p) r e

  -- its key and its value are those on the page
  pub says_key : key_at c p ≡ r.key
  unfolding key_on
  says_key = ap (λ (n : ℕ). take n (drop 16 (page_at c p))) (min-eq_left on_page.short_key) ∙ on_page.key

  pub says_value : (v : List ℕ) → r.what ≡ some v → value_at c p ≡ v
  unfolding value_on
  says_value v q = ap (λ (n : ℕ). take n (drop 32 (page_at c p))) (min-eq_left on_page.short_value) ∙ on_page.value v q

  -- their lengths are those of document 01
  module _ (h : 256 * p + 256 ≤ length c) where
    long : (a n : ℕ) → a + n ≤ 256 → length (take n (drop a (page_at c p))) ≡ n
    long a n l = length-take-le n (drop a (page_at c p)) (omega (arith, length-drop a (page_at c p), length_page c p h))

    key_length : length r.key ≡ byte (page_at c p) 2
    key_length = ap length (sym on_page.key) ∙ long 16 (byte (page_at c p) 2) (omega (arith, on_page.short_key))

    pub says_some_key : 1 ≤ length r.key
    says_some_key = omega (arith, key_length, on_page.some_key)

    pub says_short_key : length r.key ≤ 16
    says_short_key = omega (arith, key_length, on_page.short_key)

-- ---- WHAT THE CODE'S ANSWER MEANS: nothing, a value or a note
pub kind_nothing : (o : Option Rec) → kind_of o ≡ None → o ≡ none
unfolding kind_of
kind_nothing none e = refl
kind_nothing (some r) e = let z : ◌≡◌ {A = ℕ} 0 1 = cc in absurd (omega arith)

pub kind_value : (o : Option Rec) → kind_of o ≡ Some Value → (k : List ℕ) × (v : List ℕ) × (o ≡ some (record_of false k v))
unfolding kind_of
kind_value none e = let z : ◌≡◌ {A = ℕ} 0 1 = cc in absurd (omega arith)
kind_value (some r) e = go r.what refl e
  where
    go : (w : Option (List ℕ)) → r.what ≡ w → Some (kind_of_what w) ≡ Some Value → (k : List ℕ) × (v : List ℕ) × (some r ≡ some (record_of false k v))
    go none h q = let z : ◌≡◌ {A = ℕ} 0 1 = cc in absurd (omega arith)
    go (some v) h q = (r.key, v, λ i. some (record { key = r.key; what = h i }))

pub kind_note : (o : Option Rec) → kind_of o ≡ Some Note → (k : List ℕ) × (o ≡ some (record_of true k []))
unfolding kind_of
kind_note none e = let z : ◌≡◌ {A = ℕ} 0 1 = cc in absurd (omega arith)
kind_note (some r) e = go r.what refl e
  where
    go : (w : Option (List ℕ)) → r.what ≡ w → Some (kind_of_what w) ≡ Some Note → (k : List ℕ) × (some r ≡ some (record_of true k []))
    go none h q = (r.key, λ i. some (record { key = r.key; what = h i }))
    go (some v) h q = let z : ◌≡◌ {A = ℕ} 0 1 = cc in absurd (omega arith)

-- what kind of thing page p says, by the bytes that were read
pub read_kind : (c pg : List ℕ) (p : ℕ) (k s : Answer Kind) → pg ≡ page_at c p → k ≡ kind_of (rec_of pg) → k ≡ s → kind_of (rec_at c p) ≡ s
unfolding rec_at
read_kind c pg p k s u e d = sym (e ∙ ap (λ (g : List ℕ). kind_of (rec_of g)) u) ∙ d
