-- THE ANSWERS of the calls (document 01, section 3), as functions of the map and the arguments: refused with a number, or done. The tests stand in the document's
-- order, and the first that applies is answered. Nothing here mentions code. Assumes nothing.
use Rattle.std.specs.Prelude.{List, [], ◌++◌, Bool, true, false, not, ◌&&◌, ◌||◌, ℕ, suc, ◌+◌, ◌*◌, ◌/◌, ◌%◌, eqb, leb, length, drop}
use Rattle.std.proofs.Math.Option.{Option, none, some}
use Rattle.page.specs.Page.{byte, all}
use Rattle.record.specs.Record.{most_value}
use Rattle.ring_log.specs.Key.{Key}
use Rattle.ring_log.specs.Map.{Map, lookup, alter}
use Rattle.ring_log.specs.Ring.{Chip, head, ring_test, map_of, room, most_blocks}

-- what a call answers: the number of a refusal, or that it is done, and what came of it
pub data Answer (A : Type 0) : Type 0 where
  refused : ℕ → Answer A
  done : A → Answer A

-- what is lent to a call: the lengths of the chip in bytes and of the work area in words; whether the power has gone since the last start (to start: whether it
-- is gone); whether the last start succeeded and no format came after it
pub record Lent : Type 0 where
  pub chip : ℕ
  pub work : ℕ
  pub dark : Bool
  pub ready : Bool

-- B
abbrev pub blocks : Lent → ℕ
blocks l = l.chip / 4096

-- the lengths are allowed: the chip has B * 4,096 bytes for an allowed B, and the work area is long enough
abbrev pub sizes_test : ℕ → ℕ → Bool
sizes_test c w = eqb (c % 4096) 0 && leb 4 (c / 4096) && leb (c / 4096) most_blocks && leb (16 * (c / 4096) + 16) w

module _ {A : Type 0} where
  -- refused with n where the test holds
  unfoldable pub refuse : ℕ → Bool → Answer A → Answer A
  refuse n true a = refused n
  refuse n false a = a

  -- 5
  abbrev pub sized : Lent → Answer A → Answer A
  sized l a = refuse 5 (not (sizes_test l.chip l.work)) a

  -- 5, then 7: the power has gone since the last start; then 8: the last start answered 8, or a format came after it
  abbrev pub lent : Lent → Answer A → Answer A
  lent l a = sized l (refuse 7 l.dark (refuse 8 (not l.ready) a))

  -- 1: the key's length is 0 or above 16
  abbrev pub keyed : Key → Answer A → Answer A
  keyed k a = refuse 1 (eqb (length k) 0 || leb 17 (length k)) a

  -- there is no value
  abbrev pub missing : Option A → Bool
  missing none = true
  missing (some v) = false

-- a byte that can be printed: 0x21 to 0x7E; and a key of such bytes alone
abbrev pub printable : ℕ → Bool
printable x = leb 0x21 x && leb x 0x7E

unfoldable pub printed : Key → Bool
printed k = all (λ i. printable (byte k i)) (length k)

-- PUT: the map afterwards. 1 also: a byte of the key is outside 0x21 to 0x7E (request 9 of document 02); 2: the value is longer than most_value, 220; 3: the key has no value yet, and the map already has 8 (B - 2) keys
abbrev pub put_answer : Lent → Key → List ℕ → Map (List ℕ) → Answer (Map (List ℕ))
put_answer l k v m =
    lent l
    (keyed k
    (refuse 1 (not (printed k))
    (refuse 2 (leb (most_value + 1) (length v)) (refuse 3 (missing (lookup k m) && leb (room (blocks l)) (length m)) (done (alter k (some v) m))))))

-- GET: the value's length, and the buffer afterwards. 4: the key has no value; 6: the buffer is shorter than the value
abbrev pub gotten : List ℕ → Option (List ℕ) → Answer (ℕ × List ℕ)
gotten buffer none = refused 4
gotten buffer (some v) = refuse 6 (leb (suc (length buffer)) (length v)) (done (length v, v ++ drop (length v) buffer))

abbrev pub get_answer : Lent → Key → List ℕ → Map (List ℕ) → Answer (ℕ × List ℕ)
get_answer l k buffer m = lent l (keyed k (gotten buffer (lookup k m)))

-- DELETE: the map afterwards. 4: the key has no value
abbrev pub delete_answer : Lent → Key → Map (List ℕ) → Answer (Map (List ℕ))
delete_answer l k m = lent l (keyed k (refuse 4 (missing (lookup k m)) (done (alter k none m))))

-- COUNT: how many keys have a value
abbrev pub count_answer : Lent → Map (List ℕ) → Answer ℕ
count_answer l m = lent l (done (length m))

-- START: the map that was there. 8: the chip's bytes can't be read as a store: it is no ring, or has too many keys
abbrev pub start_answer : Lent → Chip → Answer (Map (List ℕ))
start_answer l c =
    sized l
    (refuse 7 l.dark
    (refuse 8 (not (ring_test (blocks l) c (head (blocks l) c) && leb (length (map_of (blocks l) c)) (room (blocks l)))) (done (map_of (blocks l) c))))

-- FORMAT: the empty map
abbrev pub format_answer : Lent → Answer (Map (List ℕ))
format_answer l = sized l (refuse 7 l.dark (done []))
