-- What a page says. The layout of the payload is that of docs/FORMAT.md, in both forms of a page the same.
-- Nothing here mentions code. Assumes nothing.
use Rattle.std.specs.Prelude.{Bool, true, false, cond, ◌&&◌, List, [], ◌∷◌, ◌++◌, ℕ, ◌-◌, ◌≤◌, min, length, take, drop, replicate, eqb, leb}
use Rattle.std.proofs.Math.Option.{Option, none, some}
use Rattle.page.specs.Page.{byte, Bytes, sound, flipped_form, count_form}
use Rattle.chip.specs.Chip.{page_at}

-- a record: a key and its value, or a key and none: the note that it was deleted
pub record Rec : Type 0 where
  pub key : List ℕ
  pub what : Option (List ℕ)

-- the longest value (request 4 of document 02)
abbrev pub most_value : ℕ
most_value = 220

-- ---- THE PAYLOAD

-- xs, and then zeros, n bytes in all
unfoldable pub pad : ℕ → List ℕ → List ℕ
pad n xs = xs ++ replicate (n - length xs) 0

-- byte 0 the form; byte 1 the kind; bytes 2 and 3 the lengths; 4 to 15 zeros; from 16 on the key, from 32 on the value in n bytes, each followed by zeros
unfoldable pub payload : ℕ → ℕ → ℕ → List ℕ → List ℕ → List ℕ
payload form n kind key value = (form ∷ kind ∷ length key ∷ length value ∷ replicate 12 0) ++ (pad 16 key ++ pad n value)

-- what is written has form 2, and 222 bytes behind the key, of which the last two are kept for later
abbrev pub new_page : ℕ → List ℕ → List ℕ → List ℕ
new_page kind key value = count_form (payload 2 222 kind key value)

-- before request 3 of document 02 pages had form 1, and a value at most 96 bytes
abbrev pub old_page : ℕ → List ℕ → List ℕ → List ℕ
old_page kind key value = flipped_form (payload 1 96 kind key value)

-- kind 1 is a value, kind 2 a note, which has no value
abbrev pub kind_byte : Option (List ℕ) → ℕ
kind_byte (some v) = 1
kind_byte none = 2

abbrev pub value_of : Option (List ℕ) → List ℕ
value_of (some v) = v
value_of none = []

-- the page of a record, and the one that it had before
unfoldable pub record_page : Rec → List ℕ
record_page r = new_page (kind_byte r.what) r.key (value_of r.what)

unfoldable pub old_record_page : Rec → List ℕ
old_record_page r = old_page (kind_byte r.what) r.key (value_of r.what)

-- kind 3 is a seal; it has neither key nor value
unfoldable pub seal_page : List ℕ
seal_page = new_page 3 [] []

-- what a record that is written keeps to (document 01, section 3): a key of 1 to 16 bytes, a value of at most most_value
pub record Proper (r : Rec) : Type 0 where
  pub some_key : 1 ≤ length r.key
  pub short_key : length r.key ≤ 16
  pub short_value : length (value_of r.what) ≤ most_value
  pub key_bytes : Bytes r.key
  pub value_bytes : Bytes (value_of r.what)

-- the note of a key's deletion, or the record of its value
abbrev pub record_of : Bool → List ℕ → List ℕ → Rec
record_of true key value = record { key = key; what = none }
record_of false key value = record { key = key; what = some value }

-- ---- THE WAY BACK

-- the longest value that a page of a form has
abbrev pub longest : ℕ → ℕ
longest form = cond (eqb form 1) 96 most_value

-- bytes 0 to 3 are those of a value; of a note
abbrev pub is_value : ℕ → ℕ → ℕ → ℕ → Bool
is_value form kind klen vlen = eqb kind 1 && leb 1 klen && leb klen 16 && leb vlen (longest form)

abbrev pub is_note : ℕ → ℕ → ℕ → Bool
is_note kind klen vlen = eqb kind 2 && leb 1 klen && leb klen 16 && eqb vlen 0

-- key and value stand where the lengths say; nothing else is looked at
unfoldable pub decode : List ℕ → Option Rec
decode pg =
    cond (is_value (byte pg 0) (byte pg 1) (byte pg 2) (byte pg 3))
    (some (record { key = take (byte pg 2) (drop 16 pg); what = some (take (byte pg 3) (drop 32 pg)) }))
    (cond (is_note (byte pg 1) (byte pg 2) (byte pg 3)) (some (record { key = take (byte pg 2) (drop 16 pg); what = none })) none)

-- WHAT A PAGE SAYS: nothing unless it is sound and decodes
unfoldable pub rec_of : List ℕ → Option Rec
rec_of pg = cond (sound pg) (decode pg) none

unfoldable pub rec_at : List ℕ → ℕ → Option Rec
rec_at c p = rec_of (page_at c p)

-- ---- THE KEY AND THE VALUE ON A PAGE, whatever it says: a length above 16 or most_value is cut, so that no bytes lead out of the page

unfoldable pub key_on : List ℕ → List ℕ
key_on pg = take (min (byte pg 2) 16) (drop 16 pg)

abbrev pub value_length : List ℕ → ℕ
value_length pg = min (byte pg 3) most_value

unfoldable pub value_on : List ℕ → List ℕ
value_on pg = take (value_length pg) (drop 32 pg)

-- those of page p
abbrev pub key_at : List ℕ → ℕ → List ℕ
key_at c p = key_on (page_at c p)

abbrev pub value_at : List ℕ → ℕ → List ℕ
value_at c p = value_on (page_at c p)

-- ---- A COPY: what a page says, encoded as it is today, whatever form the page has. A page that says nothing stays as it is

abbrev pub page_or : List ℕ → Option Rec → List ℕ
page_or pg none = pg
page_or pg (some r) = record_page r

unfoldable pub anew : List ℕ → List ℕ
anew pg = page_or pg (rec_of pg)
