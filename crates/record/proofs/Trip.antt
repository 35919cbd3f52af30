-- The round trip: the page of a record is a sound page that says the record, and the page of a seal one that says nothing. Assumes nothing.
use mathlib.Core.Path.{◌≡◌, refl, ap, ◌∙◌}
use mathlib.Core.Bool.{Bool, true, cond}
use mathlib.Core.Option.{Option, none, some}
use mathlib.Core.List.{List, [], ◌∷◌, ◌++◌, append_assoc}
use Prim.Native.Nat.{ℕ, zero, suc, ◌+◌, ◌-◌, ◌≤◌, ◌<◌}
use native.Mathlib.Omega.{arith}
use lib.ListN.{length, take, drop, replicate, length-append}
use lib.Seq.{take-append_seam, take-append-le, drop_at}
use borrow.Author.Tests.{le-leb}
use Rattle.page.specs.Page.{Bytes, sound, flipped_form, count_form}
use Rattle.page.proofs.Forms.{flipped_sound, length_counted, counted_sound}
use Rattle.record.specs.Record.{Rec, Proper, pad, payload, new_page, kind_byte, value_of, record_page, old_record_page, seal_page, longest, decode, rec_of}
use Rattle.record.proofs.Laying.{length_pad}

-- ---- `Bytes`, in a form whose lists antt finds
data Small : List ℕ → Type 0 where
  end : Small []
  small : (x : ℕ) {l : List ℕ} → x < 256 → Small l → Small (x ∷ l)

small_at : {l : List ℕ} → Small l → Bytes l
small_at end i = omega arith
small_at (small x p h) zero = p
small_at (small x p h) (suc i) = small_at h i

small_of : (l : List ℕ) → Bytes l → Small l
small_of [] h = end
small_of (x ∷ l) h = small x (h zero) (small_of l (λ i. h (suc i)))

both : {xs ys : List ℕ} → Small xs → Small ys → Small (xs ++ ys)
both end q = q
both (small x p h) q = small x p (both h q)

small_zeros : (n : ℕ) → Small (replicate n 0)
small_zeros zero = end
small_zeros (suc n) = small 0 (omega arith) (small_zeros n)

small_pad : (n : ℕ) (l : List ℕ) → Bytes l → Small (pad n l)
unfolding pad
small_pad n l h = both (small_of l h) (small_zeros (n - length l))

-- ---- the payload of a form, a kind, a key and a value, and whatever stands behind it
module _ (form n kind : ℕ) (key value : List ℕ) (hk : length key ≤ 16) (hv : length value ≤ n) where
  pub length_payload : length (payload form n kind key value) ≡ 32 + n
  unfolding payload
  length_payload = omega (arith, length-append (pad 16 key) (pad n value), length_pad 16 key hk, length_pad n value hv)

  module _ (behind : List ℕ) where
    read_key : take (length key) (drop 16 (payload form n kind key value ++ behind)) ≡ key
    unfolding payload pad
    read_key =
        ap (take (length key)) (append_assoc (pad 16 key) (pad n value) _)
        ∙ take-append-le (length key) (pad 16 key) _ (omega (arith, length_pad 16 key hk)) ∙ take-append_seam key _

    read_value : take (length value) (drop 32 (payload form n kind key value ++ behind)) ≡ value
    unfolding payload pad
    read_value =
        ap (λ (l : List ℕ). take (length value) (drop 16 l)) (append_assoc (pad 16 key) (pad n value) _)
        ∙ ap (take (length value)) (drop_at (pad 16 key) _ 16 (length_pad 16 key hk))
        ∙ take-append-le (length value) (pad n value) _ (omega (arith, length_pad n value hv)) ∙ take-append_seam value _

  module _ (f : form < 256) (s : n < 256) (k : kind < 256) (bk : Bytes key) (bv : Bytes value) where
    small_payload : Small (payload form n kind key value)
    unfolding payload
    small_payload =
        small form f
        (small kind k (small (length key) (omega arith) (small (length value) (omega arith) (both (small_zeros 12) (both (small_pad 16 key bk) (small_pad n value bv))))))

kind_low : (o : Option (List ℕ)) → kind_byte o < 256
kind_low none = omega arith
kind_low (some v) = omega arith

-- it decodes to what it was made of
decode_laid : (form n : ℕ) (behind key : List ℕ) (o : Option (List ℕ)) → 1 ≤ length key → length key ≤ 16 → length (value_of o) ≤ n → length (value_of o) ≤ longest form
    → decode (payload form n (kind_byte o) key (value_of o) ++ behind) ≡ some (record { key = key; what = o })
unfolding decode payload
decode_laid form n behind key none h1 h2 h3 h4 =
    rw (le-leb 1 (length key) h1, le-leb (length key) 16 h2) (λ i. some (record { key = read_key form n 2 key [] h2 h3 behind i; what = none }))
decode_laid form n behind key (some v) h1 h2 h3 h4 =
    rw (le-leb 1 (length key) h1, le-leb (length key) 16 h2, le-leb (length v) (longest form) h4)
    (λ i. some (record { key = read_key form n 1 key v h2 h3 behind i; what = some (read_value form n 1 key v h2 h3 behind i) }))

-- ---- A NEW PAGE
module _ (kind : ℕ) (key value : List ℕ) (hk : length key ≤ 16) (hv : length value ≤ 220) where
  long : length (payload 2 222 kind key value) ≡ 254
  long = length_payload 2 222 kind key value hk (omega arith)

  pub new_length : length (new_page kind key value) ≡ 256
  new_length = length_counted (payload 2 222 kind key value) long

  module _ (k : kind < 256) (bk : Bytes key) (bv : Bytes value) where
    small_new : Small (payload 2 222 kind key value)
    small_new = small_payload 2 222 kind key value hk (omega arith) (omega arith) (omega arith) k bk bv

    pub new_bytes : Bytes (new_page kind key value)
    unfolding count_form
    new_bytes = small_at (both small_new (small _ (omega arith) (small _ (omega arith) end)))

    pub new_sound : sound (new_page kind key value) ≡ true
    unfolding payload
    new_sound = counted_sound (payload 2 222 kind key value) long (small_at small_new) refl

-- THE PAGE OF A RECORD
module _ (r : Rec) (f : Proper r) where
  pub record_length : length (record_page r) ≡ 256
  unfolding record_page
  record_length = new_length (kind_byte r.what) r.key (value_of r.what) f.short_key f.short_value

  pub record_bytes : Bytes (record_page r)
  unfolding record_page
  record_bytes = new_bytes (kind_byte r.what) r.key (value_of r.what) f.short_key f.short_value (kind_low r.what) f.key_bytes f.value_bytes

  pub record_sound : sound (record_page r) ≡ true
  unfolding record_page
  record_sound = new_sound (kind_byte r.what) r.key (value_of r.what) f.short_key f.short_value (kind_low r.what) f.key_bytes f.value_bytes

  -- it says the record
  pub record_says : rec_of (record_page r) ≡ some r
  unfolding rec_of record_page count_form
  record_says = rw record_sound (decode_laid 2 222 _ r.key r.what f.some_key f.short_key (omega (arith, f.short_value)) f.short_value)

  -- OLD CHIPS: so does the page that it had before
  module _ (h : length (value_of r.what) ≤ 96) where
    abbrev old : List ℕ
    old = payload 1 96 (kind_byte r.what) r.key (value_of r.what)

    old_sound : sound (old_record_page r) ≡ true
    unfolding old_record_page payload
    old_sound =
        flipped_sound old (length_payload 1 96 (kind_byte r.what) r.key (value_of r.what) f.short_key h)
        (small_at (small_payload 1 96 (kind_byte r.what) r.key (value_of r.what) f.short_key h (omega arith) (omega arith) (kind_low r.what) f.key_bytes f.value_bytes)) refl

    pub old_says : rec_of (old_record_page r) ≡ some r
    unfolding rec_of old_record_page flipped_form
    old_says = rw old_sound (decode_laid 1 96 _ r.key r.what f.some_key f.short_key h h)

-- ---- THE PAGE OF A SEAL
pub seal_length : length seal_page ≡ 256
unfolding seal_page
seal_length = new_length 3 [] [] (omega arith) (omega arith)

pub seal_bytes : Bytes seal_page
unfolding seal_page
seal_bytes = new_bytes 3 [] [] (omega arith) (omega arith) (omega arith) (λ i. omega arith) (λ i. omega arith)

pub seal_sound : sound seal_page ≡ true
unfolding seal_page
seal_sound = new_sound 3 [] [] (omega arith) (omega arith) (omega arith) (λ i. omega arith) (λ i. omega arith)

-- it says nothing
pub seal_says : rec_of seal_page ≡ none
unfolding rec_of decode seal_page count_form payload
seal_says = ap (λ (b : Bool). cond b (decode seal_page) none) seal_sound
