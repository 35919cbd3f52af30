-- The chip (document 01, section 1), and what an operation leaves of it, whole and cut short (docs/FAULTS.md: document 03, section 1, with request 7).
-- A chip is a list of bytes. Nothing here mentions code. Assumes nothing.
use Rattle.std.specs.Prelude.{Bool, true, false, List, ◌++◌, ℕ, zero, suc, ◌+◌, ◌*◌, length, take, drop, replicate}
use Rattle.std.specs.Int.Bits.{bit_or, bit_and}
use Rattle.page.specs.Page.{blank, each, ors, ands}

-- the 256 bytes of page p, and the 4,096 bytes of block b, whose pages are 16 b to 16 b + 15
unfoldable pub page_at : List ℕ → ℕ → List ℕ
page_at c p = take 256 (drop (256 * p) c)

unfoldable pub block_at : List ℕ → ℕ → List ℕ
block_at c b = take 4096 (drop (4096 * b) c)

-- the beginning of a page: its first 32 bytes, in which header and key stand (docs/FORMAT.md)
unfoldable pub beginning : List ℕ → List ℕ
beginning pg = take 32 pg

-- page p is blank
unfoldable pub blank_at : List ℕ → ℕ → Bool
blank_at c p = blank (page_at c p)

-- c with the bytes xs in the place of as many from index a on
unfoldable pub splice : List ℕ → ℕ → List ℕ → List ℕ
splice c a xs = take a c ++ (xs ++ drop (a + length xs) c)

-- the power, by the number of the fault script: 0, it is gone; 1, it goes during the next operation; more, it stays on for that one
pub data Power : Type 0 where
  gone goes stays : Power

unfoldable pub power : ℕ → Power
power zero = gone
power (suc zero) = goes
power (suc (suc n)) = stays

-- the second list's byte at each index, whatever stood there; past its end the first is as it was
abbrev pub news : List ℕ → List ℕ → List ℕ
news = each (λ x y. y)

-- bits that are 1 in the second byte become 1 in the first, or those that are 0 there become 0
abbrev pub turned : Bool → ℕ → ℕ → ℕ
turned true = bit_or
turned false = bit_and

-- ERASE BLOCK b: all its bytes become 0xFF; cut short, they are any bytes whatever, those of the noise; with the power gone nothing changes
unfoldable pub erased : Power → List ℕ → ℕ → List ℕ → List ℕ
erased stays noise b c = splice c (4096 * b) (replicate 4096 255)
erased goes noise b c = splice c (4096 * b) (news (block_at c b) noise)
erased gone noise b c = c

-- WRITE PAGE p: each byte becomes the bitwise and of what it was and what was given; cut short, the page holds new or noise
unfoldable pub written : Power → List ℕ → ℕ → List ℕ → List ℕ → List ℕ
written stays noise p new c = splice c (256 * p) (ands (page_at c p) new)
written goes noise p new c = splice c (256 * p) (ors new noise)
written gone noise p new c = c
