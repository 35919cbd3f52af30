-- NO CALL IS LONG: where the cursor is in time but for 8 (1 + q), and q is at most 5, a call erases at most one block and writes at most 10 + q pages; and the
-- cursor is in time after it, or where it was cut short at some place, but for 8 more. Assumes nothing.
use mathlib.Core.Path.{◌≡◌, refl, sym, ◌∙◌, subst}
use mathlib.Core.Logic.{◌⊎◌, inl, inr}
use mathlib.Core.List.{List}
use mathlib.Core.Bool.{Bool, true, false}
use Prim.Native.Nat.{ℕ, suc, ◌+◌, ◌-◌, ◌*◌, ◌≤◌, ◌<◌}
use native.Mathlib.Decide.{dec_lt}
use native.Mathlib.Omega.{arith}
use lib.ListN.{length}
use Rattle.chip.specs.Play.{Op, erases, writes}
use Rattle.record.specs.Record.{Rec}
use Rattle.ring_log.specs.Log.{oldest}
use Rattle.ring_log.specs.Ring.{Chip, sealed, spare, Ring, next, table, room}
use Rattle.ring_log.specs.Call.{Page, State, resting, copying, Cursor, begin, on, back, Swept, Trace, stop, pass, carry, carry_cut, append, append_cut, erasing, erase_cut, first, skip, copy, copy_cut, seal, seal_cut}
use Rattle.ring_log.specs.Opening.{fresh}
use Rattle.ring_log.specs.Timely.{Behind, Timely}
use Rattle.ring_log.proofs.RingLaws.{round_later, next_cong}
use Rattle.ring_log.proofs.Steps.{Written, Spoilt, block_table, unsealed_ring, unsealed_table, unsealed_full}
use Rattle.ring_log.proofs.Opening.{opening_ring, opening_next, copy_rows}
use Rattle.ring_log.proofs.Potential.{block_next}
use Rattle.ring_log.proofs.Append.{place, put_ring, put_next, lost_ring}
use Rattle.ring_log.proofs.Crash.{append_written, append_cut_at, erase_lost, skip_done, copy_done, copy_lost}
use Rattle.ring_log.proofs.Timely.{same_timely, timely_more, zone_timely, pass_behind, pass_timely, recorded_behind, recorded_timely, spoilt_timely, carried_behind, carried_timely}
use Rattle.ring_log.proofs.TimelyOpening.{copies_few, copies_none, opened_behind, opened_timely}
use Rattle.ring_log.proofs.CallCost.{Rest, Copies, carry_fits, erased_fits, first_fits, on_fits, seal_fits}

-- G: the cursor is in time, and q at most 5
module _ (B : ℕ) (G : Type 0) (q : ℕ) where
  -- before any opening of this call, or after one: O erases were begun, W pages written, and the head has n pages
  abbrev Stage : ℕ → ℕ → ℕ → Cursor → Type 0
  Stage O W n u = ((u.top ≡ 15) × (O ≡ 0) × (W + u.left ≤ 8)) ⊎ ((u.top ≡ 14) × (O ≤ 1) × (n + u.left ≤ 13) × (W + u.left ≤ 9 + q) × (u.left ≤ 8))

  -- what holds at each state of a call
  abbrev Fit : ℕ → ℕ → Cursor → State → Type 0
  Fit O W u (resting c h) = Rest B c h × Behind B c h u.at × (G → Timely B c h u.at (8 * q + u.left) × Stage O W (next c h) u)
  Fit O W u (copying h c₀ c t s) =
      Copies B h c₀ c t s × Behind B c₀ h u.at × (G → Timely B c₀ h u.at (8 * q + u.left) × (O ≤ 1) × (W + u.left ≤ 8))

  -- the pages written, with those of an opening that is not over
  abbrev wrote : ℕ → State → ℕ
  wrote W (resting c h) = W
  wrote W (copying h c₀ c t s) = W + (s - fresh B h)

  -- the chip that is left: a call that came to its end left the cursor at p
  abbrev pub Left : Bool → Chip → ℕ → Type 0
  Left true c p = (h : ℕ) × Ring B c h × Behind B c h p × (G → Timely B c h p (8 * q + 8))
  Left false c p = (h : ℕ) × Ring B c h × (G → (r : ℕ) × Timely B c h r (8 * q + 16))

  pub record Ended (O W : ℕ) (st : State) (c' : Chip) (p : ℕ) (l : List Op) (b : Bool) : Type 0 where
    pub left : Left b c' p
    pub short : G → (erases l + O ≤ 1) × (writes l + wrote W st ≤ 10 + q)

module _ (B : ℕ) (big : 4 ≤ B) (x : Rec) (G : Type 0) (q : ℕ) (few : G → q ≤ 5) where
  -- of an opening, the copies so far
  copied : (O W : ℕ) (u : Cursor) (h : ℕ) (c₀ c : Chip) (t s : ℕ) → Fit B G q O W u (copying h c₀ c t s) → G → s - fresh B h ≤ q
  copied O W u h c₀ c t s (k, b, f) g = go (dec_lt u.at 15)
    where
      go : Dec (u.at < 15) → s - fresh B h ≤ q
      go (yes l) =
          omega (arith, copies_few B big h c₀ k.rest.ring k.full u.at b c t s k.opening (8 * q + u.left) (f g).0 l, (f g).2)
      go (no l) = omega (arith, copies_none B big h c₀ k.rest.ring k.full u.at b c t s k.opening (omega arith))

  -- no look is left: the record may come
  swept_timely : (O W : ℕ) (u : Cursor) (c : Chip) (h : ℕ) → next c h < 15 → Swept B u (next c h) → Rest B c h → Behind B c h u.at
      → Timely B c h u.at (8 * q + u.left) × Stage B G q O W (next c h) u → Timely B c h u.at (8 * q)
  swept_timely O W u c h n (inl z) r b (t, s) = timely_more B big c h u.at (8 * q + u.left) (8 * q) (omega arith) t
  swept_timely O W u c h n (inr (inl z)) r b (t, s) =
      timely_more B big c h u.at (8 * 0) (8 * q) (omega arith) (zone_timely B big c h r.ring u.at r.few b 0 (omega arith))
  swept_timely O W u c h n (inr (inr z)) r b (t, inl s) = absurd (omega arith)
  swept_timely O W u c h n (inr (inr z)) r b (t, inr s) = go (dec_lt 0 u.left)
    where
      go : Dec (0 < u.left) → Timely B c h u.at (8 * q)
      go (yes l) = absurd (omega arith)
      go (no l) = timely_more B big c h u.at (8 * q + u.left) (8 * q) (omega arith) t

  -- the pages written before the record
  stage_writes : (O W n : ℕ) (u : Cursor) → Stage B G q O W n u → (O ≤ 1) × (W + u.left ≤ 9 + q)
  stage_writes O W n u (inl s) = (omega arith, omega arith)
  stage_writes O W n u (inr s) = (s.1, s.3)

  -- a page more for a look less
  stage_on : (O W n : ℕ) (u : Cursor) → 0 < u.left → Stage B G q O W n u → Stage B G q O (suc W) (suc n) (on u)
  stage_on O W n u l (inl s) = inl (s.0, s.1, omega arith)
  stage_on O W n u l (inr s) = inr (s.0, s.1, omega arith, omega arith, omega arith)

  -- a look less
  stage_pass : (O W n : ℕ) (u : Cursor) → 0 < u.left → Stage B G q O W n u → Stage B G q O W n (on u)
  stage_pass O W n u l (inl s) = inl (s.0, s.1, omega arith)
  stage_pass O W n u l (inr s) = inr (s.0, s.1, omega arith, omega arith, omega arith)

  -- the head is full: no block was opened yet
  stage_full : (O W n : ℕ) (u : Cursor) → n ≡ 15 → Stage B G q O W n u → (O ≡ 0) × (W + u.left ≤ 8)
  stage_full O W n u e (inl s) = (s.1, s.2)
  stage_full O W n u e (inr s) = absurd (omega arith)

  -- ---- the seal, whole or cut, where it doesn't read blank
  module _ (O W : ℕ) (u : Cursor) (h : ℕ) (c₀ c c' : Chip) (s : ℕ) (w : Page (16 * h + 15) c c') (yes-on : sealed c' h ≡ true)
      (fit : Fit B G q O W u (copying h c₀ c (oldest B (h + B) + 15) s)) where
    sealed_behind : Behind B c' (spare B h) (back u).at
    sealed_behind = opened_behind B big h c₀ fit.0.rest.ring fit.0.full u.at fit.1 c c' s fit.0.opening w yes-on

    sealed_timely : G → Timely B c' (spare B h) (back u).at (8 * q + (back u).left)
    sealed_timely g =
        timely_more B big c' (spare B h) (back u).at (8 * q + u.left - (15 - u.at)) (8 * q + (back u).left) (omega arith)
        (opened_timely B big h c₀ fit.0.rest.ring fit.0.full u.at fit.1 c c' s fit.0.opening w yes-on (8 * q + u.left) fit.0.rest.few (fit.2 g).0)

  -- ---- from any state of a call
  ended : (O W : ℕ) (u : Cursor) (st : State) (c' : Chip) (p : ℕ) (l : List Op) (b : Bool) → Trace B x u st c' p l b → length (table B c') ≤ room B
      → Fit B G q O W u st → Ended B G q O W st c' p l b
  ended O W u _ _ _ _ _ (stop _ (resting c h)) fits (r, a, f) =
      record {
        left = (h, r.ring, λ g. (u.at, timely_more B big c h u.at (8 * q + u.left) (8 * q + 16) (most g) (f g).0));
        short = λ g. let z = stage_writes O W (next c h) u (f g).1 in (omega (arith, z.0), omega (arith, z.1));
      }
    where
      most : G → 8 * q + u.left ≤ 8 * q + 16
      most g = go (f g).1
        where
          go : Stage B G q O W (next c h) u → 8 * q + u.left ≤ 8 * q + 16
          go (inl s) = omega arith
          go (inr s) = omega arith
  ended O W u _ _ _ _ _ (stop _ (copying h c₀ c t s)) fits (k, a, f) =
      record {
        left = (
          h,
          k.opening.ring,
          λ g. (u.at, timely_more B big c h u.at (8 * q + u.left) (8 * q + 16) (omega (arith, (f g).2)) (same_timely B big c₀ c h u.at (8 * q + u.left) k.opening.here k.opening.same (f g).0)),
        );
        short = λ g. (omega (arith, (f g).1), omega (arith, (f g).2, copied O W u h c₀ c t s (k, a, f) g));
      }
  ended O W u _ _ _ _ _ (pass _ c c' h p l b n looks dead k) fits (r, a, f) =
      let y : Ended B G q O W (resting c h) c' p l b =
      ended O W (on u) (resting c h) c' p l b k fits (
        r,
        pass_behind B big c h r.ring u.at (omega (arith, looks.zone)) dead a,
        λ g. (
          timely_more B big c h (suc u.at) (8 * q + u.left - 1) (8 * q + (u.left - 1)) (omega (arith, looks.some_left))
              (pass_timely B big c h r.ring u.at (omega (arith, looks.zone)) dead (8 * q + u.left) (f g).0),
          stage_pass O W (next c h) u looks.some_left (f g).1,
        ),
      ) in
      record { left = y.left; short = y.short }
  ended O W u _ _ _ _ _ (carry _ c d c' h p new l b r a n looks live w k) fits (e, at, f) =
      let v : Written B (place B big c h) r c d = append_written B big c d h e.ring n r w in
      let m : next d h ≡ suc (next c h) = put_next B big c d h e.ring n r v in
      let y : Ended B G q O (suc W) (resting d h) c' p l b =
      ended O (suc W) (on u) (resting d h) c' p l b k fits (
        carry_fits B big u c d h r a n looks live w e,
        carried_behind B big c h e.ring d n u looks r a live v at,
        λ g. (
          timely_more B big d h (suc u.at) (8 * q + u.left - 1) (8 * q + (u.left - 1)) (omega (arith, looks.some_left))
              (carried_timely B big c h e.ring d n u looks r a live v (8 * q + u.left) e.few (f g).0),
          subst (λ (i : ℕ). Stage B G q O (suc W) i (on u)) (sym m) (stage_on O W (next c h) u looks.some_left (f g).1),
        ),
      ) in
      record { left = y.left; short = λ g. (omega (arith, (y.short g).0), omega (arith, (y.short g).1)) }
  ended O W u _ _ _ _ _ (carry_cut _ c c' h new r a n looks live w) fits (e, at, f) =
      record {
        left = go (append_cut_at B big c c' h e.ring n r w);
        short = λ g. let z = stage_writes O W (next c h) u (f g).1 in (omega (arith, z.0), omega (arith, z.1, looks.some_left));
      }
    where
      most : G → u.left ≤ 8
      most g = go (f g).1
        where
          go : Stage B G q O W (next c h) u → u.left ≤ 8
          go (inl s) = omega arith
          go (inr s) = omega (arith, looks.some_left)

      go : Written B (place B big c h) r c c' ⊎ Spoilt B (place B big c h) c c' → Left B G q false c' u.at
      go (inl v) = (
        h,
        put_ring B big c c' h e.ring n r v,
        λ g. (
          suc u.at,
          timely_more B big c' h (suc u.at) (8 * q + u.left - 1) (8 * q + 16) (omega (arith, most g))
              (carried_timely B big c h e.ring c' n u looks r a live v (8 * q + u.left) e.few (f g).0),
        ),
      )
      go (inr v) = (
        h,
        lost_ring B big c c' h e.ring n v,
        λ g. (
          u.at,
          timely_more B big c' h u.at (8 * q + u.left + 8) (8 * q + 16) (omega (arith, most g))
              (spoilt_timely B big c h e.ring c' n v u.at (8 * q + u.left) e.few (f g).0),
        ),
      )
  ended O W u _ _ _ _ _ (append _ c c' h new n z w) fits (e, at, f) =
      let v : Written B (place B big c h) x c c' = append_written B big c c' h e.ring n x w in
      record {
        left = (
          h,
          put_ring B big c c' h e.ring n x v,
          recorded_behind B big c h e.ring c' n x v u.at at,
          λ g. recorded_timely B big c h e.ring c' n x v u.at (8 * q) fits (swept_timely O W u c h n z e at (f g)),
        );
        short = λ g. let y = stage_writes O W (next c h) u (f g).1 in (omega (arith, y.0), omega (arith, y.1));
      }
  ended O W u _ _ _ _ _ (append_cut _ c c' h new n z w) fits (e, at, f) =
      record {
        left = go (append_cut_at B big c c' h e.ring n x w);
        short = λ g. let y = stage_writes O W (next c h) u (f g).1 in (omega (arith, y.0), omega (arith, y.1));
      }
    where
      go : Written B (place B big c h) x c c' ⊎ Spoilt B (place B big c h) c c' → Left B G q false c' u.at
      go (inl v) = (
        h,
        put_ring B big c c' h e.ring n x v,
        λ g. (
          u.at,
          timely_more B big c' h u.at (8 * q + 8) (8 * q + 16) (omega arith)
              (recorded_timely B big c h e.ring c' n x v u.at (8 * q) fits (swept_timely O W u c h n z e at (f g))),
        ),
      )
      go (inr v) = (
        h,
        lost_ring B big c c' h e.ring n v,
        λ g. (
          u.at,
          timely_more B big c' h u.at (8 * q + 8) (8 * q + 16) (omega arith)
              (spoilt_timely B big c h e.ring c' n v u.at (8 * q) e.few (swept_timely O W u c h n z e at (f g))),
        ),
      )
  ended O W u _ _ _ _ _ (erasing _ c d c' h p l b n t w k) fits (e, at, f) =
      let y : Ended B G q (suc O) W (copying h c d (oldest B (h + B)) (fresh B h)) c' p l b =
      ended (suc O) W u (copying h c d (oldest B (h + B)) (fresh B h)) c' p l b k fits (
        erased_fits B big c d h n t w e,
        at,
        λ g. let z = stage_full O W (next c h) u n (f g).1 in ((f g).0, omega (arith, z.0), z.1),
      ) in
      record { left = y.left; short = λ g. (omega (arith, (y.short g).0), omega (arith, (y.short g).1)) }
  ended O W u _ _ _ _ _ (erase_cut _ c c' h n t w) fits (e, at, f) =
      record {
        left = (
          h,
          (erase_lost B big c c' h e.ring t w).0,
          λ g. let z = stage_full O W (next c h) u n (f g).1 in (
            u.at,
            timely_more B big c' h u.at (8 * q + u.left) (8 * q + 16) (omega (arith, z.1))
                (same_timely B big c c' h u.at (8 * q + u.left) (block_next B big c c' h e.ring.inside w)
                (block_table B big c c' h e.ring w (round_later B big c h e.ring t)) (f g).0),
          ),
        );
        short = λ g. let z = stage_full O W (next c h) u n (f g).1 in (omega (arith, z.0), omega (arith, z.1));
      }
  ended O W u _ _ _ _ _ (first _ c c' h p l b n t k) fits (e, at, f) =
      let y : Ended B G q O W (copying h c c (oldest B (h + B)) (fresh B h)) c' p l b =
      ended O W u (copying h c c (oldest B (h + B)) (fresh B h)) c' p l b k fits (
        first_fits B big c h n t e,
        at,
        λ g. let z = stage_full O W (next c h) u n (f g).1 in ((f g).0, omega (arith, z.0), z.1),
      ) in
      record { left = y.left; short = λ g. (omega (arith, (y.short g).0), omega (arith, (y.short g).1)) }
  ended O W u _ _ _ _ _ (skip _ h c₀ c c' t s p l b i dead k) fits (e, at, f) =
      let y : Ended B G q O W (copying h c₀ c (suc t) s) c' p l b =
      ended O W u (copying h c₀ c (suc t) s) c' p l b k fits (on_fits B big h c₀ c c t s s (skip_done B big c c h c₀ t s i dead e.opening) e, at, f) in
      record { left = y.left; short = y.short }
  ended O W u _ _ _ _ _ (copy _ h c₀ c d c' t s p new l b r a i says live stands w k) fits (e, at, f) =
      let y : Ended B G q O W (copying h c₀ d (suc t) (suc s)) c' p l b =
      ended O W u (copying h c₀ d (suc t) (suc s)) c' p l b k fits
      (on_fits B big h c₀ c d t s (suc s) (copy_done B big c d h c₀ t s r a e.low i says live stands e.opening w) e, at, f) in
      record { left = y.left; short = λ g. (omega (arith, (y.short g).0), omega (arith, (y.short g).1, e.opening.copies)) }
  ended O W u _ _ _ _ _ (copy_cut _ h c₀ c c' t s new r a i says live stands w) fits (e, at, f) =
      let z : (table B c' ≡ table B c₀) × (next c' h ≡ next c₀ h) = copy_rows B big h c₀ c c' t s r r a e.low i says live stands e.opening w.page in
      record {
        left = (
          h,
          (copy_lost B big c c' h c₀ t s r a e.low i says live stands e.opening w).0,
          λ g. (u.at, timely_more B big c' h u.at (8 * q + u.left) (8 * q + 16) (omega (arith, (f g).2)) (same_timely B big c₀ c' h u.at (8 * q + u.left) z.1 z.0 (f g).0)),
        );
        short = λ g. (omega (arith, (f g).1), omega (arith, (f g).2, copied O W u h c₀ c t s (e, at, f) g));
      }
  ended O W u _ _ _ _ _ (seal _ h c₀ c d c' s p new l b w k) fits (e, at, f) =
      let m : next d (spare B h) ≡ s - fresh B h = opening_next B big h c₀ c d s e.opening w.page w.fills in
      let y : Ended B G q O (suc (W + (s - fresh B h))) (resting d (spare B h)) c' p l b =
      ended O (suc (W + (s - fresh B h))) (back u) (resting d (spare B h)) c' p l b k fits (
        seal_fits B big h c₀ c d s w.page w.fills e,
        sealed_behind O W u h c₀ c d s w.page w.fills (e, at, f),
        λ g. (
          sealed_timely O W u h c₀ c d s w.page w.fills (e, at, f) g,
          let z : s - fresh B h ≤ q = copied O W u h c₀ c (oldest B (h + B) + 15) s (e, at, f) g in
              inr (refl, (f g).1, omega (arith, m, few g, (f g).2), omega (arith, (f g).2), omega (arith, (f g).2)),
        ),
      ) in
      record { left = y.left; short = λ g. (omega (arith, (y.short g).0), omega (arith, (y.short g).1)) }
  ended O W u _ _ _ _ _ (seal_cut _ h c₀ c c' s new w) fits (e, at, f) =
      record {
        left = go (sealed c' h) refl;
        short = λ g. (omega (arith, (f g).1), omega (arith, (f g).2, copied O W u h c₀ c (oldest B (h + B) + 15) s (e, at, f) g));
      }
    where
      go : (b : Bool) → sealed c' h ≡ b → Left B G q false c' u.at
      go true yes-on = (
        spare B h,
        opening_ring B big h c₀ c c' s e.opening w.page yes-on,
        λ g. (
          (back u).at,
          timely_more B big c' (spare B h) (back u).at (8 * q + (back u).left) (8 * q + 16) (omega (arith, (f g).2))
              (sealed_timely O W u h c₀ c c' s w.page yes-on (e, at, f) g),
        ),
      )
      go false off = (
        h,
        unsealed_ring B big c c' h e.opening.ring w.page off,
        λ g. (
          u.at,
          timely_more B big c' h u.at (8 * q + u.left) (8 * q + 16) (omega (arith, (f g).2))
              (same_timely B big c₀ c' h u.at (8 * q + u.left)
              (next_cong c c' h 15 (λ j l. unsealed_full B big c c' h e.opening.ring w.page off (16 * h + j)) ∙ e.opening.here)
              (unsealed_table B big c c' h e.opening.ring w.page off ∙ e.opening.same) (f g).0),
        ),
      )

  -- A CALL, from the cursor p on
  pub call_timely : (c c' : Chip) (h p r : ℕ) (l : List Op) (b : Bool) → Trace B x (begin p) (resting c h) c' r l b → Rest B c h → length (table B c') ≤ room B
      → Behind B c h p → (G → Timely B c h p (8 * q + 8)) → Left B G q b c' r × (G → (erases l ≤ 1) × (writes l ≤ 10 + q))
  call_timely c c' h p r l b k e fits a f =
      let y : Ended B G q 0 0 (resting c h) c' r l b = ended 0 0 (begin p) (resting c h) c' r l b k fits (e, a, λ g. (f g, inl (refl, refl, omega arith))) in
      (y.left, λ g. (omega (arith, (y.short g).0), omega (arith, (y.short g).1)))
