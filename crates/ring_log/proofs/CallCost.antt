-- What a call costs: an opening lowers the potential, and no value is moved twice in a call, so it is short. Assumes nothing.
use mathlib.Core.Path.{◌≡◌, ap, ◌∙◌}
use mathlib.Core.List.{List}
use mathlib.Core.Bool.{Bool, true, false}
use mathlib.Core.Option.{some}
use Prim.Native.Nat.{ℕ, suc, ◌+◌, ◌-◌, ◌*◌, ◌%◌, ◌≤◌, ◌<◌}
use native.Mathlib.Omega.{arith}
use lib.ListN.{length}
use Rattle.chip.specs.Play.{Op, erases, writes}
use Rattle.record.specs.Record.{Rec}
use Rattle.ring_log.specs.Map.{Map}
use Rattle.ring_log.specs.Log.{Placed, oldest, FIRST, U, log_place}
use Rattle.ring_log.specs.Ring.{Chip, sealed, spare, Ring, next, table, room}
use Rattle.ring_log.specs.Call.{Page, Erased, Wrote, State, resting, copying, Cursor, on, back, Looks, Live, Trace, stop, pass, carry, carry_cut, append, append_cut, erasing, erase_cut, first, skip, copy, copy_cut, seal, seal_cut}
use Rattle.ring_log.specs.Wear.{ages, phi, potential, ripes}
use Rattle.ring_log.specs.Opening.{Opening, fresh, Moved}
use Rattle.ring_log.proofs.RingLaws.{next_is, next_le}
use Rattle.ring_log.proofs.Start.{blank_ring, blank_table}
use Rattle.ring_log.proofs.WearLaws.{ripes_le}
use Rattle.ring_log.proofs.Opening.{opening_fresh, opening_ring, opening_count, opening_next, opening_progress}
use Rattle.ring_log.proofs.Potential.{potential_at}
use Rattle.ring_log.proofs.Append.{opened_paid}
use Rattle.ring_log.proofs.Crash.{append_written, erase_done, skip_done, copy_done}
use Rattle.ring_log.proofs.Carry.{carry_done, carry_count, carry_moved}

-- ---- what holds at each state of a call
module _ (B : ℕ) where
  -- between two openings: a ring with room
  pub record Rest (c : Chip) (h : ℕ) : Type 0 where
    pub ring : Ring B c h
    pub few : length (table B c) ≤ room B

  -- in the middle of an opening, which began because the head was full
  pub record Copies (h : ℕ) (c₀ c : Chip) (t s : ℕ) : Type 0 where
    pub low : oldest B (h + B) ≤ t
    pub opening : Opening B h c₀ c t s
    pub rest : Rest c₀ h
    pub full : next c₀ h ≡ 15

  abbrev Fit : State → Type 0
  Fit (resting c h) = Rest c h
  Fit (copying h c₀ c t s) = Copies h c₀ c t s

module _ (B : ℕ) (big : 4 ≤ B) where
  -- ---- the steps keep it

  pub erased_fits : (c d : Chip) (h : ℕ) → next c h ≡ 15 → sealed c ((h + 2) % B) ≡ true → Erased (spare B h) c d → Rest B c h → Copies B h c d (oldest B (h + B)) (fresh B h)
  erased_fits c d h n t w g = record { low = omega arith; opening = erase_done B big c d h g.ring t w; rest = g; full = n }

  pub first_fits : (c : Chip) (h : ℕ) → next c h ≡ 15 → sealed c ((h + 2) % B) ≡ false → Rest B c h → Copies B h c c (oldest B (h + B)) (fresh B h)
  first_fits c h n t g = record { low = omega arith; opening = opening_fresh B big h c g.ring t; rest = g; full = n }

  pub on_fits : (h : ℕ) (c₀ c d : Chip) (t s u : ℕ) → Opening B h c₀ d (suc t) u → Copies B h c₀ c t s → Copies B h c₀ d (suc t) u
  on_fits h c₀ c d t s u o g = record { low = omega (arith, g.low); opening = o; rest = g.rest; full = g.full }

  module _ (h : ℕ) (c₀ c d : Chip) (s : ℕ) (w : Page (16 * h + 15) c d) (on : sealed d h ≡ true) (g : Copies B h c₀ c (oldest B (h + B) + 15) s) where
    pub seal_fits : Rest B d (spare B h)
    seal_fits =
        record {
          ring = opening_ring B big h c₀ c d s g.opening w on;
          few = omega (arith, g.rest.few, opening_count B big h c₀ c d s g.opening w on);
        }

    -- AN OPENING lowers the potential by 90 (B - 2) at least
    pub seal_paid : potential B d + (B - 2) * ((U - 9) * U) ≤ potential B c₀
    seal_paid = opened_paid B big h c₀ c d s g.opening w on g.rest.ring g.full g.rest.few

  -- a carry keeps it
  pub carry_fits : (u : Cursor) (c d : Chip) (h : ℕ) (r : Rec) (a : Placed) (n : next c h < 15) (looks : Looks B u (next c h)) (live : Live B c (log_place B (h + B) u.at) r a)
      → Wrote (16 * h + next c h) (some r) c d → Rest B c h → Rest B d h
  carry_fits u c d h r a n looks live w g =
      record {
        ring = (carry_done B big u c d h g.ring n looks r a live w).0;
        few = omega (arith, g.few, carry_count B big u c d h g.ring n looks r a live (append_written B big c d h g.ring n r w));
      }

  -- ---- PROGRESS: after j openings K values were moved, none of them twice, and the openings had no more room than that

  -- it holds before the first step
  pub moved_start : (c : Chip) (h : ℕ) → length (table B c) ≤ room B → Moved B c h 0 0
  moved_start c h few = record { rows = omega (arith, ripes_le 0 (h + B) (next c h) (table B c)); most = omega (arith, next_le c h 15) }

  -- the loop goes round fewer than B - 1 times
  pub moved_few : (c : Chip) (h j K : ℕ) → Moved B c h j K → next c h ≡ 15 → j + 2 < B
  moved_few c h j K m e = omega (arith, m.most, m.rows)

  -- an opening keeps it
  pub moved_open : (h : ℕ) (c₀ c c' : Chip) (s j K : ℕ) (o : Opening B h c₀ c (oldest B (h + B) + 15) s) (w : Page (16 * h + 15) c c') → sealed c' h ≡ true
      → next c₀ h ≡ 15 → Moved B c₀ h j K → Moved B c' (spare B h) (suc j) (K + (s - fresh B h))
  moved_open h c₀ c c' s j K o w on full m =
      let n : next c' (spare B h) ≡ s - fresh B h = opening_next B big h c₀ c c' s o w on in
      let q : ripes K (h + B) (next c₀ h) (table B c₀) ≡ ripes K (h + B) 15 (table B c₀) = ap (λ (y : ℕ). ripes K (h + B) y (table B c₀)) full in
      let z : ripes (K + (s - fresh B h)) (spare B h + B) (next c' (spare B h)) (table B c') ≡ ripes (K + (s - fresh B h)) (spare B h + B) (s - fresh B h) (table B c') =
      ap (λ (y : ℕ). ripes (K + (s - fresh B h)) (spare B h + B) y (table B c')) n in
      record {
        rows = omega (arith, m.rows, q, z, opening_progress B big h c₀ c c' s o w on K (omega (arith, m.rows)));
        most = omega (arith, m.most, full, n);
      }

  -- the copies of this opening are among the values not yet moved
  within : (h : ℕ) (c₀ c : Chip) (t s j K : ℕ) → Opening B h c₀ c t s → next c₀ h ≡ 15 → Moved B c₀ h j K → K + (s - fresh B h) ≤ room B
  within h c₀ c t s j K o full m =
      omega (arith, m.rows, ap (λ (y : ℕ). ripes K (h + B) y (table B c₀)) full, o.ripened K (omega (arith, m.rows)))

  abbrev Going : ℕ → ℕ → State → Type 0
  Going j K (resting c h) = Moved B c h j K
  Going j K (copying h c₀ c t s) = Moved B c₀ h j K

  -- the writes and openings before
  abbrev wrote : ℕ → ℕ → State → ℕ
  wrote j K (resting c h) = K + j
  wrote j K (copying h c₀ c t s) = K + j + (s - fresh B h)

  abbrev begun : ℕ → State → ℕ
  begun j (resting c h) = j
  begun j (copying h c₀ c t s) = suc j

  abbrev Short : ℕ → ℕ → State → List Op → Type 0
  Short j K st l = (writes l + wrote j K st ≤ room B + B) × (15 * (erases l + begun j st) ≤ room B + 15)

  module _ (x : Rec) where
    short : (j K : ℕ) (u : Cursor) (st : State) (c' : Chip) (p : ℕ) (l : List Op) (b : Bool) → Trace B x u st c' p l b → Fit B st → Going j K st → Short j K st l
    short j K u _ _ _ _ _ (stop _ (resting c h)) g m = (omega (arith, m.rows, m.most), omega (arith, m.rows, m.most))
    short j K u _ _ _ _ _ (stop _ (copying h c₀ c t s)) g m =
        (omega (arith, within h c₀ c t s j K g.opening g.full m, m.most, g.full), omega (arith, m.rows, m.most, g.full))
    short j K u _ _ _ _ _ (pass _ c c' h p l b n looks dead k) g m = short j K (on u) (resting c h) c' p l b k g m
    short j K u _ _ _ _ _ (carry _ c d c' h p new l b r a n looks live w k) g m =
        let y : Short j (suc K) (resting d h) l =
        short j (suc K) (on u) (resting d h) c' p l b k (carry_fits u c d h r a n looks live w g)
        (carry_moved B big u c d h g.ring n looks r a live (append_written B big c d h g.ring n r w) j K m) in
        (omega (arith, y.0), omega (arith, y.1))
    short j K u _ _ _ _ _ (carry_cut _ c c' h new r a n looks live w) g m = (omega (arith, m.rows, m.most), omega (arith, m.rows, m.most))
    short j K u _ _ _ _ _ (append _ c c' h new n z w) g m = (omega (arith, m.rows, m.most), omega (arith, m.rows, m.most))
    short j K u _ _ _ _ _ (append_cut _ c c' h new n z w) g m = (omega (arith, m.rows, m.most), omega (arith, m.rows, m.most))
    short j K u _ _ _ _ _ (erasing _ c d c' h p l b n t w k) g m =
        let y : Short j K (copying h c d (oldest B (h + B)) (fresh B h)) l = short j K u (copying h c d (oldest B (h + B)) (fresh B h)) c' p l b k (erased_fits c d h n t w g) m in
        (omega (arith, y.0), omega (arith, y.1))
    short j K u _ _ _ _ _ (erase_cut _ c c' h n t w) g m = (omega (arith, m.rows, m.most), omega (arith, m.rows, m.most, n))
    short j K u _ _ _ _ _ (first _ c c' h p l b n t k) g m =
        let y : Short j K (copying h c c (oldest B (h + B)) (fresh B h)) l = short j K u (copying h c c (oldest B (h + B)) (fresh B h)) c' p l b k (first_fits c h n t g) m in
        (omega (arith, y.0), omega (arith, y.1))
    short j K u _ _ _ _ _ (skip _ h c₀ c c' t s p l b i dead k) g m =
        short j K u (copying h c₀ c (suc t) s) c' p l b k (on_fits h c₀ c c t s s (skip_done B big c c h c₀ t s i dead g.opening) g) m
    short j K u _ _ _ _ _ (copy _ h c₀ c d c' t s p new l b r a i at live stands w k) g m =
        let y : Short j K (copying h c₀ d (suc t) (suc s)) l =
        short j K u (copying h c₀ d (suc t) (suc s)) c' p l b k (on_fits h c₀ c d t s (suc s) (copy_done B big c d h c₀ t s r a g.low i at live stands g.opening w) g) m in
        (omega (arith, y.0, g.opening.copies), omega (arith, y.1))
    short j K u _ _ _ _ _ (copy_cut _ h c₀ c c' t s new r a i at live stands w) g m =
        (omega (arith, within h c₀ c t s j K g.opening g.full m, m.most, g.full), omega (arith, m.rows, m.most, g.full))
    short j K u _ _ _ _ _ (seal _ h c₀ c d c' s p new l b w k) g m =
        let y : Short (suc j) (K + (s - fresh B h)) (resting d (spare B h)) l =
        short (suc j) (K + (s - fresh B h)) (back u) (resting d (spare B h)) c' p l b k (seal_fits h c₀ c d s w.page w.fills g)
        (moved_open h c₀ c d s j K g.opening w.page w.fills g.full m) in
        (omega (arith, y.0), omega (arith, y.1))
    short j K u _ _ _ _ _ (seal_cut _ h c₀ c c' s new w) g m =
        (omega (arith, within h c₀ c (oldest B (h + B) + 15) s j K g.opening g.full m, m.most, g.full), omega (arith, m.rows, m.most, g.full))

    -- A CALL IS SHORT: at most 8 (B - 2) + B writes and 8 (B - 2) / 15 + 1 erases
    pub call_short : (u : Cursor) (c c' : Chip) (h p : ℕ) (l : List Op) (b : Bool) → Trace B x u (resting c h) c' p l b → Rest B c h
        → (writes l ≤ room B + B) × (15 * erases l ≤ room B + 15)
    call_short u c c' h p l b k g =
        let y : Short 0 0 (resting c h) l = short 0 0 u (resting c h) c' p l b k g (moved_start c h g.few) in
        (omega (arith, y.0), omega (arith, y.1))

  -- ---- A BLANK CHIP costs nothing

  pub blank_potential : (c : Chip) → ((p : ℕ) → p < 16 * B → c.full p ≡ false) → potential B c ≡ 0
  blank_potential c f =
      let r : Ring B c 0 = blank_ring B big c f in
      let n : next c 0 ≡ 0 = next_is c 0 15 0 (omega arith) (λ j x y. f (16 * 0 + j) (omega arith)) (λ j e. absurd (omega arith)) in
      potential_at B big c 0 r ∙ ap (λ (m : Map Placed). phi (B - 2) (next c 0 - FIRST) (ages (0 + B) (next c 0) m)) (blank_table B big c f)
      ∙ ap (λ (u : ℕ). phi (B - 2) (u - FIRST) 0) n ∙ omega arith
