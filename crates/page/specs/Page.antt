-- The bytes of a page (document 01, section 2; document 02, request 3), and what noise and writing do to bytes (section 1; document 03, section 1).
-- A page is a list of 256 bytes. Nothing here mentions code. Assumes nothing.
use Rattle.std.specs.Prelude.{◌≡◌, Bool, true, false, cond, ◌&&◌, List, [], ◌∷◌, ◌++◌, map, ℕ, zero, suc, ◌+◌, ◌-◌, ◌*◌, ◌/◌, ◌%◌, ◌≤◌, ◌<◌, get_or, eqb}
use Rattle.std.specs.Int.Bits.{bit_or, bit_and}
use Rattle.std.specs.Int.Count.{ones}

-- byte i of a list of bytes
abbrev pub byte : List ℕ → ℕ → ℕ
byte l i = get_or l i 0

-- every number of a list is a byte
abbrev pub Bytes : List ℕ → Type 0
Bytes l = (i : ℕ) → byte l i < 256

-- from byte m on all are 0
pub record Bare (l : List ℕ) (m : ℕ) : Type 0 where
  pub zeros : (i : ℕ) → m ≤ i → byte l i ≡ 0

-- the test p holds of every number below n
unfoldable pub all : (ℕ → Bool) → ℕ → Bool
all p zero = true
all p (suc n) = all p n && p n

-- a page is blank when its 256 bytes all read 0xFF
unfoldable pub blank : List ℕ → Bool
blank pg = all (λ i. eqb (byte pg i) 255) 256

-- and so is a run of it, the 64 bytes from byte m on, when these do
unfoldable pub blank_run : List ℕ → ℕ → Bool
blank_run pg m = all (λ i. eqb (byte pg (m + i)) 255) 64

-- ---- TWO FORMS: byte 0 of a page says which it has, and nothing else does

-- FORM 1, the flipped copy (document 01, section 2). y is 255 minus x. (As a sum, so that no number above 255 passes for a byte.)
abbrev pub flips : ℕ → ℕ → Bool
flips x y = eqb (x + y) 255

-- byte 128 + i is 255 minus byte i, for all i from 0 to 127
unfoldable pub flipped : List ℕ → Bool
flipped pg = all (λ i. flips (byte pg i) (byte pg (128 + i))) 128

-- the page of a payload of 128 bytes: the payload, and then each of its bytes flipped
unfoldable pub flipped_form : List ℕ → List ℕ
flipped_form payload = payload ++ map (λ x. 255 - x) payload

-- FORM 2, the count (request 3 of document 02). How many bits of the first n bytes are 1
unfoldable pub ones_to : List ℕ → ℕ → ℕ
ones_to pg zero = zero
ones_to pg (suc n) = ones_to pg n + ones (byte pg n)

-- the last two bytes, high byte first, are the number of 0 bits in the payload, bytes 0 to 253: with its 1 bits they make 2,032, all bits of 254 bytes.
-- (As a sum too)
unfoldable pub counted : List ℕ → Bool
counted pg = eqb (256 * byte pg 254 + byte pg 255 + ones_to pg 254) 2032

-- the number of 0 bits in a payload of 254 bytes
abbrev pub zero_bits : List ℕ → ℕ
zero_bits payload = 2032 - ones_to payload 254

-- its page: the payload, and then that number
unfoldable pub count_form : List ℕ → List ℕ
count_form payload = payload ++ (zero_bits payload / 256 ∷ zero_bits payload % 256 ∷ [])

-- A PAGE IS SOUND when it is so in its form; one whose byte 0 is neither 1 nor 2 isn't
unfoldable pub sound : List ℕ → Bool
sound pg = cond (eqb (byte pg 0) 1) (flipped pg) (cond (eqb (byte pg 0) 2) (counted pg) false)

-- f of the bytes at each index; past the end of the second list the first is as it was
unfoldable pub each : (ℕ → ℕ → ℕ) → List ℕ → List ℕ → List ℕ
each f [] ys = []
each f (x ∷ xs) [] = x ∷ each f xs []
each f (x ∷ xs) (y ∷ ys) = f x y ∷ each f xs ys

-- bitwise and
abbrev pub ands : List ℕ → List ℕ → List ℕ
ands = each bit_and

-- bitwise or: every bit that is 1 in the first stays 1, and every other is the noise's
abbrev pub ors : List ℕ → List ℕ → List ℕ
ors = each bit_or
