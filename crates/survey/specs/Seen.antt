-- What a start saw: how many pages of each of the three kinds, and where the first spoilt one is (request 2 of document 02). Assumes nothing.
use Rattle.std.specs.Prelude.{◌≡◌, ◌≢◌, Bool, true, List, [], ◌∷◌, ℕ, zero, suc, ◌+◌, ◌/◌, ◌≤◌, eqb, length}
use Rattle.std.proofs.Math.Option.{Option, none, some}
use Rattle.page.specs.Look.{look_of}
use Rattle.page.specs.declared.Look.{Look}
use Rattle.page.specs.declared.Look.TheVariants.{Blank, Sound, Spoilt}
use Rattle.chip.specs.Chip.{page_at}
use Rattle.lent.specs.Ended.{Answer, Done, Refused}
use Rattle.survey.specs.declared.Seen.{Seen}

-- 1 for a page of the kind, 0 for another
abbrev pub blank_one : Look → ℕ
blank_one Blank = 1
blank_one Sound = 0
blank_one (Spoilt i) = 0

abbrev pub sound_one : Look → ℕ
sound_one Blank = 0
sound_one Sound = 1
sound_one (Spoilt i) = 0

abbrev pub spoilt_one : Look → ℕ
spoilt_one Blank = 0
spoilt_one Sound = 0
spoilt_one (Spoilt i) = 1

-- how many of the first n pages of the chip are of the kind
unfoldable pub count : (Look → ℕ) → List ℕ → ℕ → ℕ
count one c zero = 0
count one c (suc n) = count one c n + one (look_of (page_at c n))

-- the first spoilt page among the first n, and its lowest byte that disagrees with its copy
abbrev pub spoilt_at : ℕ → Look → Option (ℕ × ℕ)
spoilt_at p Blank = none
spoilt_at p Sound = none
spoilt_at p (Spoilt i) = some (p, i)

abbrev pub or_first : Option (ℕ × ℕ) → Option (ℕ × ℕ) → Option (ℕ × ℕ)
or_first none y = y
or_first (some x) y = some x

unfoldable pub first_spoilt : List ℕ → ℕ → Option (ℕ × ℕ)
first_spoilt c zero = none
first_spoilt c (suc n) = or_first (first_spoilt c n) (spoilt_at n (look_of (page_at c n)))

-- 0 and 0 where there is none
abbrev pub page_in : Option (ℕ × ℕ) → ℕ
page_in none = 0
page_in (some x) = x.0

abbrev pub byte_in : Option (ℕ × ℕ) → ℕ
byte_in none = 0
byte_in (some x) = x.1

-- WHAT IS SEEN of the first n pages
unfoldable pub seen_of : List ℕ → ℕ → Seen
seen_of c n =
    record {
      blank = count blank_one c n;
      sound = count sound_one c n;
      spoilt = count spoilt_one c n;
      page = page_in (first_spoilt c n);
      byte = byte_in (first_spoilt c n);
    }

-- what is seen of p pages counts p at most
pub record Small (p : ℕ) (s : Seen) : Type 0 where
  pub is : s.blank + s.sound + s.spoilt ≤ p

-- one page more: where s is what is seen of the first p pages, and page p has this look, r is what is seen of one more
pub record SeesOne (look : Look) (p : ℕ) (s r : Seen) : Type 0 where
  pub small : Small (suc p) r
  pub one : (c : List ℕ) → s ≡ seen_of c p → look ≡ look_of (page_at c p) → r ≡ seen_of c (suc p)

-- the five numbers, in their order
abbrev pub numbers : Seen → List ℕ
numbers s = s.blank ∷ s.sound ∷ s.spoilt ∷ s.page ∷ s.byte ∷ []

-- a start that ended so read the chip: it is done, or it is refused with 8, for these bytes are no store
abbrev pub has_read : Answer → Bool
has_read (Done n) = true
has_read (Refused k) = eqb k 8

-- done, or refused with 8, they are those of all pages; refused with another number, they are as they were
abbrev pub SeesBy : List ℕ → List ℕ → List ℕ → Answer → Type 0
SeesBy c l l' (Done n) = l' ≡ numbers (seen_of c (length c / 256))
SeesBy c l l' (Refused k) = (k ≡ 8 → l' ≡ numbers (seen_of c (length c / 256))) × (k ≢ 8 → l' ≡ l)

pub record Sees (c l l' : List ℕ) (r : Answer) : Type 0 where
  pub ends : SeesBy c l l' r
