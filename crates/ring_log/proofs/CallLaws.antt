-- THE CALL: whatever prefix of its operations is done, with the last one cut as document 03 allows, the map is the one before or the one after; done to the
-- end, it is the one after. Assumes nothing.
use mathlib.Core.Path.{◌≡◌, refl, ap, ◌∙◌}
use mathlib.Core.Logic.{◌⊎◌, inl, inr}
use mathlib.Core.List.{List}
use mathlib.Core.Bool.{Bool, false}
use Prim.Native.Nat.{ℕ, suc, ◌+◌, ◌≤◌}
use native.Mathlib.Omega.{arith}
use Rattle.chip.specs.Play.{Op}
use Rattle.record.specs.Record.{Rec}
use Rattle.ring_log.specs.Map.{Map, alter}
use Rattle.ring_log.specs.Log.{oldest}
use Rattle.ring_log.specs.Ring.{Chip, spare, Ring, map_of}
use Rattle.ring_log.specs.Call.{State, resting, copying, Cursor, on, back, Trace, stop, pass, carry, carry_cut, append, append_cut, erasing, erase_cut, first, skip, copy, copy_cut, seal, seal_cut, After}
use Rattle.ring_log.specs.Opening.{Opening, fresh}
use Rattle.ring_log.proofs.Opening.{opening_fresh}
use Rattle.ring_log.proofs.Carry.{carry_done, carry_lost}
use Rattle.ring_log.proofs.Crash.{append_done, append_lost, erase_done, erase_lost, skip_done, copy_done, copy_lost, seal_done, seal_lost}

module _ (B : ℕ) where
  -- what holds at each state of a call, where the map before it was m
  abbrev pub Good : Map (List ℕ) → State → Type 0
  Good m (resting c h) = Ring B c h × (map_of B c ≡ m)
  Good m (copying h c₀ c t s) = (oldest B (h + B) ≤ t) × Opening B h c₀ c t s × (map_of B c₀ ≡ m)

  -- there is a ring, and its map is one that the call may leave
  abbrev pub Kept : Bool → Map (List ℕ) → Map (List ℕ) → Chip → Type 0
  Kept b m n c = ((k : ℕ) × Ring B c k) × After b m n (map_of B c)

module _ (B : ℕ) (big : 4 ≤ B) (x : Rec) (m : Map (List ℕ)) where
  -- from any state of it
  call_from : (u : Cursor) (st : State) (c' : Chip) (p : ℕ) (l : List Op) (b : Bool) → Trace B x u st c' p l b → Good B m st → Kept B b m (alter x.key x.what m) c'
  call_from u _ _ _ _ _ (stop _ (resting c h)) (r, e) = ((h, r), inl e)
  call_from u _ _ _ _ _ (stop _ (copying h c₀ c t s)) (low, o, e) = ((h, o.ring), inl (o.chip ∙ e))
  call_from u _ _ _ _ _ (pass _ c c' h p l b n looks dead k) g = call_from (on u) (resting c h) c' p l b k g
  call_from u _ _ _ _ _ (carry _ c d c' h p new l b y a n looks live w k) (r, e) =
      let q : (Ring B d h) × (map_of B d ≡ map_of B c) = carry_done B big u c d h r n looks y a live w in
      call_from (on u) (resting d h) c' p l b k (q.0, q.1 ∙ e)
  call_from u _ _ _ _ _ (carry_cut _ c c' h new y a n looks live w) (r, e) =
      let q : (Ring B c' h) × (map_of B c' ≡ map_of B c) = carry_lost B big u c c' h r n looks y a live w in
      ((h, q.0), inl (q.1 ∙ e))
  call_from u _ _ _ _ _ (append _ c c' h new n z w) (r, e) =
      let q : (Ring B c' h) × (map_of B c' ≡ alter x.key x.what (map_of B c)) = append_done B big c c' h r n x w in
      ((h, q.0), q.1 ∙ ap (alter x.key x.what) e)
  call_from u _ _ _ _ _ (append_cut _ c c' h new n z w) (r, e) = go (append_lost B big c c' h r n x w)
    where
      go : (Ring B c' h) × ((map_of B c' ≡ map_of B c) ⊎ (map_of B c' ≡ alter x.key x.what (map_of B c))) → Kept B false m (alter x.key x.what m) c'
      go (q, inl d) = ((h, q), inl (d ∙ e))
      go (q, inr d) = ((h, q), inr (d ∙ ap (alter x.key x.what) e))
  call_from u _ _ _ _ _ (erasing _ c d c' h p l b n t w k) (r, e) =
      call_from u (copying h c d (oldest B (h + B)) (fresh B h)) c' p l b k (omega arith, erase_done B big c d h r t w, e)
  call_from u _ _ _ _ _ (erase_cut _ c c' h n t w) (r, e) =
      let q : (Ring B c' h) × (map_of B c' ≡ map_of B c) = erase_lost B big c c' h r t w in
      ((h, q.0), inl (q.1 ∙ e))
  call_from u _ _ _ _ _ (first _ c c' h p l b n t k) (r, e) =
      call_from u (copying h c c (oldest B (h + B)) (fresh B h)) c' p l b k (omega arith, opening_fresh B big h c r t, e)
  call_from u _ _ _ _ _ (skip _ h c₀ c c' t s p l b i dead k) (low, o, e) =
      call_from u (copying h c₀ c (suc t) s) c' p l b k (omega arith, skip_done B big c c h c₀ t s i dead o, e)
  call_from u _ _ _ _ _ (copy _ h c₀ c d c' t s p new l b r a i at live stands w k) (low, o, e) =
      call_from u (copying h c₀ d (suc t) (suc s)) c' p l b k (omega arith, copy_done B big c d h c₀ t s r a low i at live stands o w, e)
  call_from u _ _ _ _ _ (copy_cut _ h c₀ c c' t s new r a i at live stands w) (low, o, e) =
      let q : (Ring B c' h) × (map_of B c' ≡ map_of B c₀) = copy_lost B big c c' h c₀ t s r a low i at live stands o w in
      ((h, q.0), inl (q.1 ∙ e))
  call_from u _ _ _ _ _ (seal _ h c₀ c d c' s p new l b w k) (low, o, e) =
      let q : (Ring B d (spare B h)) × (map_of B d ≡ map_of B c₀) = seal_done B big c d h c₀ s o w in
      call_from (back u) (resting d (spare B h)) c' p l b k (q.0, q.1 ∙ e)
  call_from u _ _ _ _ _ (seal_cut _ h c₀ c c' s new w) (low, o, e) =
      let q : ((k : ℕ) × Ring B c' k) × (map_of B c' ≡ map_of B c₀) = seal_lost B big c c' h c₀ s o w.page in
      (q.0, inl (q.1 ∙ e))

-- BEFORE OR AFTER, and a ring again
pub call_map : (B : ℕ) → 4 ≤ B → (x : Rec) (u : Cursor) (c c' : Chip) (h p : ℕ) (l : List Op) (b : Bool) → Ring B c h → Trace B x u (resting c h) c' p l b
    → Kept B b (map_of B c) (alter x.key x.what (map_of B c)) c'
call_map B big x u c c' h p l b r k = call_from B big x (map_of B c) u (resting c h) c' p l b k (r, refl)
