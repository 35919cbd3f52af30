-- What is seen, page by page; and that the counts add up. Assumes nothing.
use mathlib.Core.Path.{◌≡◌, refl, sym, ap, ◌∙◌}
use mathlib.Core.List.{List}
use mathlib.Core.Option.{Option, none, some}
use Prim.Native.Nat.{ℕ, zero, suc, ◌+◌, ◌<◌}
use native.Mathlib.Omega.{arith}
use Rattle.page.specs.Look.{look_of}
use Rattle.page.specs.declared.Look.{Look}
use Rattle.page.specs.declared.Look.TheVariants.{Blank, Sound, Spoilt}
use Rattle.chip.specs.Chip.{page_at}
use Rattle.survey.specs.declared.Seen.{Seen}
use Rattle.survey.specs.Seen.{blank_one, sound_one, spoilt_one, count, spoilt_at, or_first, first_spoilt, page_in, byte_in, seen_of, Small, SeesOne}

abbrev saw : ℕ → ℕ → ℕ → ℕ → ℕ → Seen
saw a b d x i = record { blank = a; sound = b; spoilt = d; page = x; byte = i }

-- none yet
pub seen_none : (c : List ℕ) → saw 0 0 0 0 0 ≡ seen_of c 0
unfolding seen_of count first_spoilt
seen_none c = refl

-- THE THREE COUNTS ADD UP to the number of pages
pub adds_up : (c : List ℕ) (n : ℕ) → count blank_one c n + count sound_one c n + count spoilt_one c n ≡ n
unfolding count
adds_up c zero = refl
adds_up c (suc n) = go (look_of (page_at c n)) (adds_up c n)
  where
    go : (k : Look) → count blank_one c n + count sound_one c n + count spoilt_one c n ≡ n
        → count blank_one c n + blank_one k + (count sound_one c n + sound_one k) + (count spoilt_one c n + spoilt_one k) ≡ suc n
    go Blank e = omega arith
    go Sound e = omega arith
    go (Spoilt i) e = omega arith

-- where no spoilt page was counted, there is no first one
none_spoilt : (c : List ℕ) (n : ℕ) → count spoilt_one c n ≡ 0 → first_spoilt c n ≡ none
unfolding count first_spoilt
none_spoilt c zero e = refl
none_spoilt c (suc n) e = go (look_of (page_at c n)) (first_spoilt c n) (none_spoilt c n (omega arith)) e
  where
    go : (k : Look) (o : Option (ℕ × ℕ)) → o ≡ none → count spoilt_one c n + spoilt_one k ≡ 0 → or_first o (spoilt_at n k) ≡ none
    go Blank o d e = ap (λ (z : Option (ℕ × ℕ)). or_first z none) d
    go Sound o d e = ap (λ (z : Option (ℕ × ℕ)). or_first z none) d
    go (Spoilt i) o d e = absurd (omega arith)

-- where one was, there is
some_spoilt : (c : List ℕ) (n : ℕ) → 0 < count spoilt_one c n → (k : Option (ℕ × ℕ)) → or_first (first_spoilt c n) k ≡ first_spoilt c n
unfolding count first_spoilt
some_spoilt c zero l k = absurd (omega arith)
some_spoilt c (suc n) l k = go (look_of (page_at c n)) (first_spoilt c n) l (some_spoilt c n)
  where
    go : (x : Look) (o : Option (ℕ × ℕ)) → 0 < count spoilt_one c n + spoilt_one x → (0 < count spoilt_one c n → (k : Option (ℕ × ℕ)) → or_first o k ≡ o)
        → or_first (or_first o (spoilt_at n x)) k ≡ or_first o (spoilt_at n x)
    go Blank o l f = ap (λ (z : Option (ℕ × ℕ)). or_first z k) (f (omega arith) none) ∙ f (omega arith) k ∙ sym (f (omega arith) none)
    go Sound o l f = ap (λ (z : Option (ℕ × ℕ)). or_first z k) (f (omega arith) none) ∙ f (omega arith) k ∙ sym (f (omega arith) none)
    go (Spoilt i) none l f = refl
    go (Spoilt i) (some y) l f = refl

-- ---- ONE PAGE MORE
saw_eq : {a a' b b' d d' x x' i i' : ℕ} → a ≡ a' → b ≡ b' → d ≡ d' → x ≡ x' → i ≡ i' → saw a b d x i ≡ saw a' b' d' x' i'
saw_eq p q r s t = λ k. saw (p k) (q k) (r k) (s k) (t k)

module _ (c : List ℕ) (p a b d x i : ℕ) (h : saw a b d x i ≡ seen_of c p) where
  is_blank : a ≡ count blank_one c p
  unfolding seen_of
  is_blank = ap (λ (s : Seen). s.blank) h

  is_sound : b ≡ count sound_one c p
  unfolding seen_of
  is_sound = ap (λ (s : Seen). s.sound) h

  is_spoilt : d ≡ count spoilt_one c p
  unfolding seen_of
  is_spoilt = ap (λ (s : Seen). s.spoilt) h

  is_page : x ≡ page_in (first_spoilt c p)
  unfolding seen_of
  is_page = ap (λ (s : Seen). s.page) h

  is_byte : i ≡ byte_in (first_spoilt c p)
  unfolding seen_of
  is_byte = ap (λ (s : Seen). s.byte) h

  next : (k : Look) → k ≡ look_of (page_at c p)
      → saw (count blank_one c p + blank_one k) (count sound_one c p + sound_one k) (count spoilt_one c p + spoilt_one k) (page_in (or_first (first_spoilt c p) (spoilt_at p k)))
      (byte_in (or_first (first_spoilt c p) (spoilt_at p k))) ≡ seen_of c (suc p)
  unfolding seen_of count first_spoilt
  next k e =
      ap (λ (z : Look). saw (count blank_one c p + blank_one z) (count sound_one c p + sound_one z) (count spoilt_one c p + spoilt_one z) (page_in (or_first (first_spoilt c p) (spoilt_at p z)))
      (byte_in (or_first (first_spoilt c p) (spoilt_at p z)))) e

  none_more : (o : Option (ℕ × ℕ)) → o ≡ or_first o none
  none_more none = refl
  none_more (some y) = refl

  sees_blank : Blank ≡ look_of (page_at c p) → saw (a + 1) b d x i ≡ seen_of c (suc p)
  sees_blank e =
      saw_eq (omega (arith, is_blank)) (omega (arith, is_sound)) (omega (arith, is_spoilt)) (is_page ∙ ap page_in (none_more (first_spoilt c p)))
      (is_byte ∙ ap byte_in (none_more (first_spoilt c p)))
      ∙ next Blank e

  sees_sound : Sound ≡ look_of (page_at c p) → saw a (b + 1) d x i ≡ seen_of c (suc p)
  sees_sound e =
      saw_eq (omega (arith, is_blank)) (omega (arith, is_sound)) (omega (arith, is_spoilt)) (is_page ∙ ap page_in (none_more (first_spoilt c p)))
      (is_byte ∙ ap byte_in (none_more (first_spoilt c p)))
      ∙ next Sound e

  sees_first : (j : ℕ) → Spoilt j ≡ look_of (page_at c p) → d ≡ 0 → saw a b (d + 1) p j ≡ seen_of c (suc p)
  sees_first j e z =
      let n : first_spoilt c p ≡ none = none_spoilt c p (sym is_spoilt ∙ z) in
      saw_eq (omega (arith, is_blank)) (omega (arith, is_sound)) (omega (arith, is_spoilt)) (ap (λ (o : Option (ℕ × ℕ)). page_in (or_first o (some (p, j)))) (sym n))
      (ap (λ (o : Option (ℕ × ℕ)). byte_in (or_first o (some (p, j)))) (sym n))
      ∙ next (Spoilt j) e

  sees_later : (j : ℕ) → Spoilt j ≡ look_of (page_at c p) → 0 < d → saw a b (d + 1) x i ≡ seen_of c (suc p)
  sees_later j e l =
      let n : first_spoilt c p ≡ or_first (first_spoilt c p) (some (p, j)) = sym (some_spoilt c p (omega (arith, is_spoilt)) (some (p, j))) in
      saw_eq (omega (arith, is_blank)) (omega (arith, is_sound)) (omega (arith, is_spoilt)) (is_page ∙ ap page_in n) (is_byte ∙ ap byte_in n)
      ∙ next (Spoilt j) e

-- what the body of the loop answers, by the look
module _ (s : Seen) (p : ℕ) (small : Small p s) where
  pub see_blank : (k : Look) → k ≡ Blank → SeesOne k p s (saw (s.blank + 1) s.sound s.spoilt s.page s.byte)
  see_blank k z =
      record {
        small = record { is = omega (arith, small.is) };
        one = λ c h l. sees_blank c p s.blank s.sound s.spoilt s.page s.byte h (sym z ∙ l);
      }

  pub see_sound : (k : Look) → k ≡ Sound → SeesOne k p s (saw s.blank (s.sound + 1) s.spoilt s.page s.byte)
  see_sound k z =
      record {
        small = record { is = omega (arith, small.is) };
        one = λ c h l. sees_sound c p s.blank s.sound s.spoilt s.page s.byte h (sym z ∙ l);
      }

  pub see_first : (j : ℕ) → s.spoilt ≡ 0 → SeesOne (Spoilt j) p s (saw s.blank s.sound (s.spoilt + 1) p j)
  see_first j y =
      record {
        small = record { is = omega (arith, small.is) };
        one = λ c h l. sees_first c p s.blank s.sound s.spoilt s.page s.byte h j l y;
      }

  pub see_later : (j : ℕ) → 0 < s.spoilt → SeesOne (Spoilt j) p s (saw s.blank s.sound (s.spoilt + 1) s.page s.byte)
  see_later j y =
      record {
        small = record { is = omega (arith, small.is) };
        one = λ c h l. sees_later c p s.blank s.sound s.spoilt s.page s.byte h j l y;
      }
