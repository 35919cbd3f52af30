-- What the tests of `kind_of` mean. Assumes nothing.
use mathlib.Core.Path.{◌≡◌, refl, sym, ◌∙◌}
use mathlib.Core.Bool.{Bool, true, false, cond, ◌||◌, true≢false}
use mathlib.Core.Option.{none}
use mathlib.Core.List.{List}
use Prim.Native.Nat.{ℕ}
use Rattle.page.specs.Page.{byte, sound}
use Rattle.record.specs.Record.{is_value, is_note, decode, rec_of}
use Rattle.record.specs.Kinds.{kind_of}
use Rattle.std.specs.Prelude.{None, Some}
use Rattle.record.specs.declared.Kind.TheVariants.{Value, Note}

or_left : (a b : Bool) → (a || b) ≡ false → a ≡ false
or_left true b e = e
or_left false b e = refl

or_right : (a b : Bool) → (a || b) ≡ false → b ≡ false
or_right true b e = absurd (true≢false e)
or_right false b e = e

-- v: bytes 0 to 3 are those of a value; n: of a note; s: the page is sound
module _ (pg : List ℕ) (v n : Bool) (ev : v ≡ is_value (byte pg 0) (byte pg 1) (byte pg 2) (byte pg 3)) (en : n ≡ is_note (byte pg 1) (byte pg 2) (byte pg 3)) where
  pub test_neither : (v || n) ≡ false → None ≡ kind_of (rec_of pg)
  unfolding rec_of decode kind_of
  test_neither h = rw (sym ev ∙ or_left v n h, sym en ∙ or_right v n h) (go (sound pg))
    where
      go : (b : Bool) → None ≡ kind_of (cond b none none)
      go true = refl
      go false = refl

  module _ (s : Bool) (es : s ≡ sound pg) where
    pub test_unsound : s ≡ false → None ≡ kind_of (rec_of pg)
    unfolding rec_of kind_of
    test_unsound h = rw (sym es ∙ h)

    pub test_value : s ≡ true → v ≡ true → Some Value ≡ kind_of (rec_of pg)
    unfolding rec_of decode kind_of
    test_value hs hv = rw (sym es ∙ hs, sym ev ∙ hv)

    pub test_note : s ≡ true → v ≡ false → (v || n) ≡ true → Some Note ≡ kind_of (rec_of pg)
    unfolding rec_of decode kind_of
    test_note hs hv h = rw (sym es ∙ hs, sym ev ∙ hv, sym en ∙ (rw hv at h))
