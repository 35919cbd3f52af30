-- The potential of a chip, seen by its head; it does not see the spare, nor a seal that reads blank.
-- Assumes nothing.
use mathlib.Core.Path.{◌≡◌, sym, ap, ◌∙◌}
use mathlib.Core.Bool.{false}
use Prim.Native.Nat.{ℕ, ◌+◌, ◌-◌, ◌*◌, ◌/◌, ◌≤◌, ◌<◌}
use native.Mathlib.Omega.{arith}
use Rattle.ring_log.specs.Map.{Map}
use Rattle.ring_log.specs.Log.{Placed, FIRST}
use Rattle.ring_log.specs.Ring.{Chip, sealed, spare, Later, Ring, next, table}
use Rattle.ring_log.specs.Call.{Page, Block}
use Rattle.ring_log.specs.Wear.{ages, phi, potential}
use Rattle.ring_log.proofs.RingLaws.{ring_head, next_cong}
use Rattle.ring_log.proofs.Steps.{spare_other, block_ring, block_table, unsealed_ring, unsealed_table, unsealed_full}

module _ (B : ℕ) (big : 4 ≤ B) where
  -- the potential of a ring, by its head
  pub potential_at : (c : Chip) (h : ℕ) → Ring B c h → potential B c ≡ phi (B - 2) (next c h - FIRST) (ages (h + B) (next c h) (table B c))
  unfolding potential
  potential_at c h r = ap (λ (x : ℕ). phi (B - 2) (next c x - FIRST) (ages (x + B) (next c x) (table B c))) (ring_head B big c h r)

  same_potential : (c c' : Chip) (h : ℕ) → Ring B c h → Ring B c' h → next c' h ≡ next c h → table B c' ≡ table B c → potential B c' ≡ potential B c
  same_potential c c' h r r' n t =
      potential_at c' h r'
      ∙ ap (λ (x : ℕ). phi (B - 2) (x - FIRST) (ages (h + B) x (table B c'))) n
      ∙ ap (λ (m : Map Placed). phi (B - 2) (next c h - FIRST) (ages (h + B) (next c h) m)) t
      ∙ sym (potential_at c h r)

  -- the next place of the head is not in the spare
  pub block_next : (c c' : Chip) (h : ℕ) → h < B → Block (spare B h) c c' → next c' h ≡ next c h
  block_next c c' h i w = next_cong c c' h 15 (λ j l. w.full (16 * h + j) (λ e. spare_other B big h i (let z : (16 * h + j) / 16 ≡ h = omega arith in sym z ∙ e)))

  -- it does not see the spare
  pub block_potential : (c c' : Chip) (h : ℕ) (r : Ring B c h) (w : Block (spare B h) c c') → Later B c h → potential B c' ≡ potential B c
  block_potential c c' h r w f =
      same_potential c c' h r (block_ring B big c c' h r w f)
      (block_next c c' h r.inside w)
      (block_table B big c c' h r w f)

  -- nor a seal that reads blank
  pub unsealed_potential : (c c' : Chip) (h : ℕ) (r : Ring B c h) (w : Page (16 * h + 15) c c') → sealed c' h ≡ false → potential B c' ≡ potential B c
  unsealed_potential c c' h r w off =
      same_potential c c' h r (unsealed_ring B big c c' h r w off)
      (next_cong c c' h 15 (λ j l. unsealed_full B big c c' h r w off (16 * h + j)))
      (unsealed_table B big c c' h r w off)
