-- A run of operations under a fault script: what it leaves, and what is allowed. Every contract above says with it what a call did to the chip.
-- Nothing here mentions code. Assumes nothing.
use Rattle.std.specs.Prelude.{◌≡◌, true, List, [], ◌∷◌, ℕ, suc, ◌+◌, ◌-◌, ◌*◌, ◌≤◌, length}
use Rattle.page.specs.Page.{Bytes}
use Rattle.chip.specs.Chip.{Power, power, erased, written, blank_at}

-- the two ways to change the chip: erase a block; write a page, for which 256 bytes are given
pub data Op : Type 0 where
  erase : ℕ → Op
  write : ℕ → List ℕ → Op

-- what one operation leaves of the chip
unfoldable pub done : Power → List ℕ → Op → List ℕ → List ℕ
done w noise (erase b) c = erased w noise b c
done w noise (write p new) c = written w noise p new c

-- WHAT A LIST OF OPERATIONS, the first one first, leaves of the chip, under the fault script of the number f and the noise
unfoldable pub play : List ℕ → ℕ → List Op → List ℕ → List ℕ
play noise f [] c = c
play noise f (o ∷ os) c = play noise (f - 1) os (done (power f) noise o c)

-- a page that may be written with these bytes: it lies on the chip, it is blank, and they are 256 bytes
pub record Writable (p : ℕ) (new c : List ℕ) : Type 0 where
  pub inside : 256 * p + 256 ≤ length c
  pub blank : blank_at c p ≡ true
  pub size : length new ≡ 256
  pub bytes : Bytes new

-- an operation that the maker's rules allow
abbrev pub Allowed : Op → List ℕ → Type 0
Allowed (erase b) c = 4096 * b + 4096 ≤ length c
Allowed (write p new) c = Writable p new c

-- each operation of the list is allowed at its turn
unfoldable pub EachAllowed : List ℕ → ℕ → List Op → List ℕ → Type 0
EachAllowed noise f [] c = Unit {0}
EachAllowed noise f (o ∷ os) c = Allowed o c × EachAllowed noise (f - 1) os (done (power f) noise o c)

-- how many are erases, and how many are writes
abbrev pub erases : List Op → ℕ
erases [] = 0
erases (erase b ∷ os) = suc (erases os)
erases (write p new ∷ os) = erases os

abbrev pub writes : List Op → ℕ
writes [] = 0
writes (erase b ∷ os) = writes os
writes (write p new ∷ os) = suc (writes os)

-- WHAT A CALL DID: from the chip c and the number f to the chip c' and the number f' by operations, each allowed at its turn, at most x erases and y writes
pub record Did (x y : ℕ) (noise c : List ℕ) (f : ℕ) (c' : List ℕ) (f' : ℕ) : Type 0 where
  pub ops : List Op
  pub allowed : EachAllowed noise f ops c
  pub chip : c' ≡ play noise f ops c
  pub fuse : f' ≡ f - length ops
  pub few_erases : erases ops ≤ x
  pub few_writes : writes ops ≤ y
