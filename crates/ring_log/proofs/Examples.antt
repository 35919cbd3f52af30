-- The definitions, run on chips of four blocks: blank; the history of document 03; a later round, with a lie in the spare; an opening, before and after its seal.
-- And what goes wrong with other definitions: each of these is run beside the right one. Assumes nothing.
use mathlib.Core.Path.{◌≡◌, refl}
use mathlib.Core.List.{List, [], ◌∷◌, ◌++◌}
use mathlib.Core.Option.{Option, none, some}
use mathlib.Core.Logic.{inl, inr}
use mathlib.Core.Bool.{Bool, true, false, cond, not, true≢false}
use Prim.Native.Nat.{ℕ, zero, suc, ◌+◌, ◌-◌, ◌*◌, ◌/◌, ◌%◌}
use native.Mathlib.Omega.{arith}
use lib.Dec.{leb}
use lib.ListN.{length, get_or, replicate}
use Rattle.page.specs.Page.{all}
use Rattle.record.specs.Record.{Rec}
use Rattle.ring_log.specs.Key.{Key, ◌≺◌, tri, key≟}
use Rattle.ring_log.specs.Map.{Map, lookup, alter}
use Rattle.ring_log.specs.Log.{replay, page_of, log_from, run, bytes, pages}
use Rattle.ring_log.specs.Ring.{Chip, sealed, head_from, head, first_test, later_test, ring_test, next_to, next, table_at, table, map_of, room}
use Rattle.ring_log.specs.Answers.{Lent, refused, done, refuse, printed, put_answer, count_answer}

abbrev ka : Key
ka = 97 ∷ []

abbrev kb : Key
kb = 98 ∷ []

abbrev kab : Key
kab = 97 ∷ 98 ∷ []

-- a key comes after its own prefix, and not before it
prefix_first : ka ≺ kab
prefix_first = inr (refl, tt)

not_before_its_prefix : kab ≺ ka → ⊥
not_before_its_prefix (inl h) = omega arith
not_before_its_prefix (inr h) = h.1

three : alter {A = ℕ} kab (some 2) (alter kb (some 3) (alter ka (some 1) [])) ≡ (ka, 1) ∷ (kab, 2) ∷ (kb, 3) ∷ []
unfolding alter tri
three = refl

-- a note removes the value that its key had
two : alter {A = ℕ} kab none (alter {A = ℕ} kab (some 2) (alter kb (some 3) (alter ka (some 1) []))) ≡ (ka, 1) ∷ (kb, 3) ∷ []
unfolding alter tri
two = refl

-- no record stands on the page of a seal: after place 14 comes place 0 of the next block. With sixteen places a block, place 15 would be page 15, the seal's
past_the_seal : (page_of 4 14 ≡ 14) × (page_of 4 15 ≡ 16)
unfolding page_of
past_the_seal = (refl, refl)

on_the_seal : 16 * (15 / 16 % 4) + 15 % 16 ≡ 15
on_the_seal = refl

-- ---- chips, page by page: blank, spoilt or a seal, a value, a note

-- a page: blank, spoilt or a seal, a value, a note
pub data Cell : Type 0 where
  blank : Cell
  mark : Cell
  value : Key → ℕ → Cell
  note : Key → Cell

abbrev says : Cell → Option Rec
says blank = none
says mark = none
says (value k v) = some (record { key = k; what = some (v ∷ []) })
says (note k) = some (record { key = k; what = none })

abbrev used : Cell → Bool
used blank = false
used mark = true
used (value k v) = true
used (note k) = true

unused : (x : Cell) → used x ≡ false → says x ≡ none
unused blank e = refl
unused mark e = absurd (true≢false e)
unused (value k v) e = absurd (true≢false e)
unused (note k) e = absurd (true≢false e)

abbrev chip : List Cell → Chip
chip l = record { recs = λ p. says (get_or l p blank); full = λ p. used (get_or l p blank); honest = λ p e. unused (get_or l p blank) e }

abbrev blanks : ℕ → List Cell
blanks n = replicate n blank

-- a block of one record, and its seal
abbrev one : Cell → List Cell
one x = (x ∷ blanks 14) ++ (mark ∷ [])

blank_head : head 4 (chip []) ≡ 0
unfolding head head_from
blank_head = refl

blank_map : map_of 4 (chip []) ≡ []
unfolding map_of table table_at run log_from head head_from
blank_map = refl

-- put a = 1, put a = 2, delete a, a spoilt page, put b = 9
abbrev early : Chip
early = chip (value ka 1 ∷ value ka 2 ∷ note ka ∷ mark ∷ value kb 9 ∷ [])

early_map : map_of 4 early ≡ (kb, 9 ∷ []) ∷ []
unfolding map_of table table_at run log_from head head_from page_of alter tri
early_map = refl

early_next : next early 0 ≡ 5
unfolding next_to
early_next = refl

early_ring : ring_test 4 early 0 ≡ true
unfolding ring_test first_test later_test all
early_ring = refl

-- the head is block 1, the spare 2, the oldest 3: whatever stands in the spare, a seal too, nobody believes it
abbrev later : List Cell → Chip
later lie = chip (one (note ka) ++ (value kb 5 ∷ blanks 15) ++ lie ++ one (value ka 1))

abbrev lie : List Cell
lie = one (value ka 7)

later_head : head 4 (later lie) ≡ 1
unfolding head head_from
later_head = refl

later_head' : head 4 (later (blanks 16)) ≡ 1
unfolding head head_from
later_head' = refl

later_ring : ring_test 4 (later lie) 1 ≡ true
unfolding ring_test first_test later_test all
later_ring = refl

later_map : map_of 4 (later lie) ≡ (kb, 5 ∷ []) ∷ []
unfolding map_of table table_at run log_from head head_from page_of alter tri
later_map = refl

-- the log does not include the spare, which an erase may fill with any bytes: begun one block earlier, it would have a key that nobody put
abbrev made_up : Chip
made_up = later (one (value kab 7))

without_the_spare : map_of 4 made_up ≡ (kb, 5 ∷ []) ∷ []
unfolding map_of table table_at run log_from head head_from page_of alter tri
without_the_spare = refl

with_the_spare : bytes (replay (log_from 4 made_up.recs (15 * (5 + 1 - 4)) 60) []) ≡ (kab, 7 ∷ []) ∷ (kb, 5 ∷ []) ∷ []
unfolding log_from page_of alter tri
with_the_spare = refl

-- the head comes after a sealed block. Here it is block 0; that block 1 is open says nothing, for it is the spare
abbrev round : Chip
round = chip ((value ka 3 ∷ blanks 15) ++ blanks 16 ++ one (value ka 1) ++ one (value ka 2))

round_head : head 4 round ≡ 0
unfolding head head_from
round_head = refl

abbrev open_from : Chip → ℕ → ℕ → ℕ
open_from c x zero = 0
open_from c x (suc n) = cond (not (sealed c (suc x))) (suc x) (open_from c (suc x) n)

first_open_block : open_from round 0 3 ≡ 1
first_open_block = refl

-- no ring: two blocks beside each other are open, and it is not the first round
torn : ring_test 4 (chip (one (note ka) ++ blanks 16 ++ blanks 16 ++ blanks 16 ++ [])) 2 ≡ false
unfolding ring_test first_test later_test all
torn = refl

-- an opening from block 3 to block 0: the value of the oldest block, 1, is copied, the note of it is not
abbrev turning : Cell → List Cell → Chip
turning end spare = chip (spare ++ one (value kab 4) ++ one (value kb 5) ++ (note kb ∷ blanks 14) ++ (end ∷ []))

turning_map : map_of 4 (turning blank (value kab 4 ∷ blanks 15)) ≡ (kab, 4 ∷ []) ∷ []
unfolding map_of table table_at run log_from head head_from page_of alter tri
turning_map = refl

turning_pages : pages 4 (table 4 (turning blank (value kab 4 ∷ blanks 15))) ≡ 16 ∷ []
unfolding table table_at run log_from head head_from page_of alter tri
turning_pages = refl

turned_head : head 4 (turning mark (value kab 4 ∷ blanks 15)) ≡ 0
unfolding head head_from
turned_head = refl

turned_map : map_of 4 (turning mark (value kab 4 ∷ blanks 15)) ≡ (kab, 4 ∷ []) ∷ []
unfolding map_of table table_at run log_from head head_from page_of alter tri
turned_map = refl

turned_pages : pages 4 (table 4 (turning mark (value kab 4 ∷ blanks 15))) ≡ 0 ∷ []
unfolding table table_at run log_from head head_from page_of alter tri
turned_pages = refl

turned_next : next (turning mark (value kab 4 ∷ blanks 15)) 0 ≡ 1
unfolding next_to
turned_next = refl

-- why every live value of the oldest block is copied before the seal: left behind, kab is there before the seal and gone after it
before_the_seal : map_of 4 (turning blank (blanks 16)) ≡ (kab, 4 ∷ []) ∷ []
unfolding map_of table table_at run log_from head head_from page_of alter tri
before_the_seal = refl

left_behind : map_of 4 (turning mark (blanks 16)) ≡ []
unfolding map_of table table_at run log_from head head_from page_of alter tri
left_behind = refl

-- why nothing is erased in the first round: head 0, and an erase of block 1 that left a page at its seal. The head would be taken for block 2, and start answers 8
abbrev fooled : Chip
fooled = chip ((value ka 1 ∷ blanks 15) ++ one (value kb 2))

fooled_head : head 4 fooled ≡ 2
unfolding head head_from
fooled_head = refl

fooled_ring : ring_test 4 fooled 2 ≡ false
unfolding ring_test first_test later_test all
fooled_ring = refl

-- ---- room: four blocks hold 16 keys. The 16th is taken and the 17th refused; tested with one key more, the 16th would be refused

abbrev keys_from : ℕ → ℕ → Map (List ℕ)
keys_from k zero = []
keys_from k (suc n) = (k ∷ [], []) ∷ keys_from (suc k) n

abbrev four : Lent
four = record { chip = 16384; work = 80; dark = false; ready = true }

sixteenth_taken : put_answer four (64 ∷ []) [] (keys_from 48 15) ≡ done (alter (64 ∷ []) (some []) (keys_from 48 15))
unfolding refuse printed all lookup key≟
sixteenth_taken = refl

seventeenth_refused : put_answer four (64 ∷ []) [] (keys_from 48 16) ≡ refused 3
unfolding refuse printed all lookup key≟
seventeenth_refused = refl

one_key_too_soon : leb (room 4) (suc (length (keys_from 48 15))) ≡ true
one_key_too_soon = refl

-- ---- the next place is the one after the last page that isn't blank, and not the first blank one: a record that went to a gap would stand before an older one

abbrev gapped : Cell → Chip
gapped x = chip (value ka 1 ∷ x ∷ value ka 2 ∷ [])

after_the_gap : next (gapped blank) 0 ≡ 3
unfolding next_to
after_the_gap = refl

-- a = 3 was put, and is not the value
lost_in_the_gap : map_of 4 (gapped (value ka 3)) ≡ (ka, 2 ∷ []) ∷ []
unfolding map_of table table_at run log_from head head_from page_of alter tri
lost_in_the_gap = refl

-- ---- 7 comes before 8: where the power has gone and the area is not ready, 7 is the answer

seven_first : count_answer (record { chip = 16384; work = 80; dark = true; ready = false }) [] ≡ refused 7
unfolding refuse
seven_first = refl
