-- The ring of blocks: the head is found from the seals, and from it the log, the table, the map and the next place. Nothing here mentions code. Assumes nothing.
use Rattle.std.specs.Prelude.{◌≡◌, ◌≢◌, ◌⊎◌, List, Bool, true, false, cond, not, ◌&&◌, ◌||◌, ℕ, zero, suc, ◌+◌, ◌-◌, ◌*◌, ◌%◌, ◌≤◌, ◌<◌, eqb, leb, length}
use Rattle.std.proofs.Math.Option.{none}
use Rattle.std.proofs.lemmas.Bool.{not-false}
use Rattle.page.specs.Page.{all}
use Rattle.chip.specs.Chip.{blank_at}
use Rattle.record.specs.Record.{rec_at}
use Rattle.record.proofs.Operations.{blank_says}
use Rattle.ring_log.specs.Map.{Map}
use Rattle.ring_log.specs.Log.{Recs, Placed, run, bytes, pages}

-- A CHIP, as the ring sees it: what each page says, and which pages are not blank. A blank page says nothing
pub record Chip : Type 0 where
  pub recs : Recs
  pub full : ℕ → Bool
  pub honest : (p : ℕ) → full p ≡ false → recs p ≡ none

-- the bytes of a chip, seen so
abbrev pub chip_of : List ℕ → Chip
chip_of c = record { recs = rec_at c; full = λ p. not (blank_at c p); honest = λ p e. blank_says c p (not-false (blank_at c p) e) }

-- ---- SEALS AND THE HEAD

-- block b is sealed when its page 15 isn't blank, whatever stands there
abbrev pub sealed : Chip → ℕ → Bool
sealed c b = c.full (16 * b + 15)

-- the head: the least h from 1 to B - 1 such that block h - 1 is sealed and block h isn't; 0 if there is none
unfoldable pub head_from : Chip → ℕ → ℕ → ℕ
head_from c x zero = 0
head_from c x (suc n) = cond (sealed c x && not (sealed c (suc x))) (suc x) (head_from c (suc x) n)

unfoldable pub head : ℕ → Chip → ℕ
head B c = head_from c 0 (B - 1)

-- the spare is the block after the head
abbrev pub spare : ℕ → ℕ → ℕ
spare B h = (h + 1) % B

-- the first round: the blocks below h are sealed, and all pages of those above it are blank
pub record First (B : ℕ) (c : Chip) (h : ℕ) : Type 0 where
  pub below : (b : ℕ) → b < h → sealed c b ≡ true
  pub above : (p : ℕ) → 16 * h + 16 ≤ p → p < 16 * B → c.full p ≡ false

-- later: every block but h and the spare is sealed; of the spare nothing is said
abbrev pub Later : ℕ → Chip → ℕ → Type 0
Later B c h = (b : ℕ) → b < B → b ≢ h → b ≢ spare B h → sealed c b ≡ true

-- THE CHIP IS A RING with the head h
pub record Ring (B : ℕ) (c : Chip) (h : ℕ) : Type 0 where
  pub inside : h < B
  pub unsealed : sealed c h ≡ false
  pub shape : First B c h ⊎ Later B c h

-- the same as tests: the first round
unfoldable pub first_test : ℕ → Chip → ℕ → Bool
first_test B c h = all (λ b. sealed c b) h && all (λ i. not (c.full (16 * h + 16 + i))) (16 * B - (16 * h + 16))

-- later
unfoldable pub later_test : ℕ → Chip → ℕ → Bool
later_test B c h = all (λ b. eqb b h || (eqb b (spare B h) || sealed c b)) B

-- and a ring
unfoldable pub ring_test : ℕ → Chip → ℕ → Bool
ring_test B c h = leb (suc h) B && (not (sealed c h) && (first_test B c h || later_test B c h))

-- ---- TABLE, MAP AND THE NEXT PLACE

-- the rows of the log, key by key: the value with the place of its newest record. The head h is the block number h + B
unfoldable pub table_at : ℕ → Chip → ℕ → Map Placed
table_at B c h = run B c.recs (h + B) (15 * (h + B) + 15)

unfoldable pub table : ℕ → Chip → Map Placed
table B c = table_at B c (head B c)

-- THE MAP that a chip stands for
unfoldable pub map_of : ℕ → Chip → Map (List ℕ)
map_of B c = bytes (table B c)

-- the next place of block h: after the last page of its first 15 that isn't blank
unfoldable pub next_to : Chip → ℕ → ℕ → ℕ
next_to c h zero = 0
next_to c h (suc n) = cond (c.full (16 * h + n)) (suc n) (next_to c h n)

abbrev pub next : Chip → ℕ → ℕ
next c h = next_to c h 15

-- the most blocks that a chip of a store has
abbrev pub most_blocks : ℕ
most_blocks = 4096

-- how many keys a store of B blocks holds
abbrev pub room : ℕ → ℕ
room B = 8 * (B - 2)

-- what memory says of the chip between two calls: the head, the next place and the index
pub record Ready (B : ℕ) (c : Chip) (h n : ℕ) (index : List ℕ) : Type 0 where
  pub ring : Ring B c h
  pub here : n ≡ next c h
  pub rows : index ≡ pages B (table B c)
  pub few : length index ≤ room B
