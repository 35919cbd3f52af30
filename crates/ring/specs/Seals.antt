-- What the seals say, and where the log of a ring begins. Assumes nothing.
use Rattle.std.specs.Prelude.{Option, Some, None, Bool, true, false, cond, not, ◌&&◌, ◌≡◌, ℕ, zero, suc, ◌+◌, ◌*◌, ◌≤◌, ◌<◌, eqb}
use Rattle.std.proofs.Math.Option.{none as nothing}
use Rattle.page.specs.Page.{all}
use Rattle.ring_log.specs.Log.{page_of}
use Rattle.ring_log.specs.Ring.{Chip, sealed, head, ring_test}
use Rattle.ring.specs.declared.Seals.{Seals}

-- ---- ONE LOOK AT EACH SEAL

-- 1 for what holds, 0 for what doesn't; and how many of the first n hold
abbrev pub one : Bool → ℕ
one true = 1
one false = 0

unfoldable pub counted : (ℕ → Bool) → ℕ → ℕ
counted p zero = 0
counted p (suc n) = counted p n + one (p n)

-- the head, as far as it was found, after a look at block x and the one before it
abbrev pub head_by : ℕ → Bool → Bool → ℕ → ℕ
head_by h before here x = cond (eqb h 0 && before && not here) x h

-- what the seals say: the head, whether block 0 is sealed, and how many blocks are
pub record SealsSay (B : ℕ) (c : Chip) (s : Seals) : Type 0 where
  pub blocks : s.head.blocks ≡ B
  pub inside : s.head.block < B
  pub is_head : s.head.block ≡ head B c
  pub is_first : s.first ≡ sealed c 0
  pub all_of_them : s.count ≡ counted (λ x. sealed c x) B

-- ---- THE RING

-- the blocks below h are sealed
abbrev pub sealed_below : Chip → ℕ → Bool
sealed_below c h = all (λ b. sealed c b) h

-- the n pages from p on are blank
abbrev pub blank_from : Chip → ℕ → ℕ → Bool
blank_from c p n = all (λ i. not (c.full (p + i))) n

-- WHERE THE LOG BEGINS: the chip is a ring with the head h, and the places of the blocks from the oldest one, h + 2, up to block r after the head say nothing
pub record Begins (B : ℕ) (c : Chip) (h r : ℕ) : Type 0 where
  pub ring : ring_test B c h ≡ true
  pub range : (2 ≤ r) × (r ≤ B)
  pub silent : (s : ℕ) → 15 * (h + 2) ≤ s → s < 15 * (h + r) → c.recs (page_of B s) ≡ nothing

-- it begins there; or the chip is no ring with the head h
abbrev pub FindsBegin : ℕ → Chip → ℕ → Option ℕ → Type 0
FindsBegin B c h (Some r) = Begins B c h r
FindsBegin B c h None = ring_test B c h ≡ false
