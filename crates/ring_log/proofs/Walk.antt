-- A call put together from its steps, as the code goes: one stretch of operations after another, then its end or a cut. Assumes nothing.
use mathlib.Core.Path.{◌≡◌, sym, subst}
use mathlib.Core.Logic.{◌≢◌}
use mathlib.Core.List.{List, [], ◌∷◌, ◌++◌, append_assoc}
use mathlib.Core.Option.{none, some}
use mathlib.Core.Bool.{true, false}
use Prim.Native.Nat.{ℕ, suc, ◌+◌, ◌*◌, ◌%◌, ◌<◌}
use Rattle.chip.specs.Play.{Op, erase, write}
use Rattle.record.specs.Record.{Rec}
use Rattle.ring_log.specs.Map.{lookup}
use Rattle.ring_log.specs.Log.{Placed, page_of, oldest, run, log_place}
use Rattle.ring_log.specs.Ring.{Chip, sealed, spare, next}
use Rattle.ring_log.specs.Call.{Block, Erased, Wrote, CutWrote, State, resting, copying, Cursor, on, Looks, Live, Dead, Trace, pass, carry, carry_cut, erasing, erase_cut, first, skip, copy, copy_cut, seal, seal_cut, Goes, Ends, Leads, LeadsBack, Cut}
use Rattle.ring_log.specs.Opening.{fresh}

module _ (B : ℕ) where
  -- ---- stretches, where the cursor goes from u to v

  -- no operation
  pub goes_none : (u : Cursor) (st : State) → Goes B u u st st []
  goes_none u st = record { then = λ x c' p m b k. k }

  -- one stretch after another
  pub goes_then : {u v w : Cursor} {st st' st'' : State} {l m : List Op} → Goes B u v st st' l → Goes B v w st' st'' m → Goes B u w st st'' (l ++ m)
  goes_then {u} {v} {w} {st} {st'} {st''} {l} {m} f g =
      record { then = λ x c' p n b k. subst (λ (o : List Op). Trace B x u st c' p o b) (sym (append_assoc l m n)) (f.then x c' p (m ++ n) b (g.then x c' p n b k)) }

  -- the power goes after it
  pub goes_ends : {u v : Cursor} {st st' : State} {c' : Chip} {l m : List Op} → Goes B u v st st' l → Ends B v st' c' m → Ends B u st c' (l ++ m)
  goes_ends {c' = c'} {l} {m} f g = record { stood = g.stood; short = λ x. f.then x c' g.stood m false (g.short x) }

  -- ---- the same, wherever the cursor stands

  pub leads_none : (st : State) → Leads B st st []
  leads_none st = record { then = λ u. goes_none u st }

  pub leads_then : {st st' st'' : State} {l m : List Op} → Leads B st st' l → Leads B st' st'' m → Leads B st st'' (l ++ m)
  leads_then f g = record { then = λ u. goes_then (f.then u) (g.then u) }

  pub leads_back : {st st' st'' : State} {l m : List Op} → Leads B st st' l → LeadsBack B st' st'' m → LeadsBack B st st'' (l ++ m)
  leads_back f g = record { then = λ u. goes_then (f.then u) (g.then u) }

  pub leads_cut : {st st' : State} {c' : Chip} {l m : List Op} → Leads B st st' l → Cut B st' c' m → Cut B st c' (l ++ m)
  leads_cut f g = record { short = λ u. goes_ends (f.then u) (g.short u) }

  -- ---- single operations

  module _ (u : Cursor) (c : Chip) (h : ℕ) (free : next c h < 15) (looks : Looks B u (next c h)) where
    -- a place without a live value is passed
    pub goes_pass : Dead B c (log_place B (h + B) u.at) → Goes B u (on u) (resting c h) (resting c h) []
    goes_pass dead = record { then = λ x c' p m b k. pass u c c' h p m b free looks dead k }

    -- a live value is carried to the head
    module _ (c' : Chip) (new : List ℕ) (r : Rec) (a : Placed) (live : Live B c (log_place B (h + B) u.at) r a) where
      pub goes_carry : Wrote (16 * h + next c h) (some r) c c' → Goes B u (on u) (resting c h) (resting c' h) (write (16 * h + next c h) new ∷ [])
      goes_carry w = record { then = λ x d p m b k. carry u c c' d h p new m b r a free looks live w k }

      pub ends_carry : CutWrote (16 * h + next c h) (some r) c c' → Ends B u (resting c h) c' (write (16 * h + next c h) new ∷ [])
      ends_carry w = record { stood = u.at; short = λ x. carry_cut u c c' h new r a free looks live w }

  module _ (c c' : Chip) (h : ℕ) (full : next c h ≡ 15) where
    -- the spare is erased
    pub leads_erase : sealed c ((h + 2) % B) ≡ true → Erased (spare B h) c c' → Leads B (resting c h) (copying h c c' (oldest B (h + B)) (fresh B h)) (erase (spare B h) ∷ [])
    leads_erase t w = record { then = λ u. record { then = λ x d p m b k. erasing u c c' d h p m b full t w k } }

    pub cut_erase : sealed c ((h + 2) % B) ≡ true → Block (spare B h) c c' → Cut B (resting c h) c' (erase (spare B h) ∷ [])
    cut_erase t w = record { short = λ u. record { stood = u.at; short = λ x. erase_cut u c c' h full t w } }

    -- in the first round it is not
    pub leads_first : sealed c ((h + 2) % B) ≡ false → Leads B (resting c h) (copying h c c (oldest B (h + B)) (fresh B h)) []
    leads_first t = record { then = λ u. record { then = λ x d p m b k. first u c d h p m b full t k } }

  module _ (h : ℕ) (c₀ c : Chip) (t s : ℕ) (l : t < oldest B (h + B) + 15) where
    -- a place without a live value
    pub leads_skip : ((r : Rec) (a : Placed) → c.recs (page_of B t) ≡ some r → lookup r.key (run B c.recs (h + B) s) ≡ some a → a.0 ≢ t)
        → Leads B (copying h c₀ c t s) (copying h c₀ c (suc t) s) []
    leads_skip dead = record { then = λ u. record { then = λ x d p m b k. skip u h c₀ c d t s p m b l dead k } }

    module _ (c' : Chip) (r : Rec) (a : Placed) (new : List ℕ) (at : c.recs (page_of B t) ≡ some r) (live : lookup r.key (run B c.recs (h + B) s) ≡ some a) (stands : a.0 ≡ t) where
      -- a live value is copied
      pub leads_copy : Wrote (page_of B s) (some r) c c' → Leads B (copying h c₀ c t s) (copying h c₀ c' (suc t) (suc s)) (write (page_of B s) new ∷ [])
      leads_copy w = record { then = λ u. record { then = λ x d p m b k. copy u h c₀ c c' d t s p new m b r a l at live stands w k } }

      pub cut_copied : CutWrote (page_of B s) (some r) c c' → Cut B (copying h c₀ c t s) c' (write (page_of B s) new ∷ [])
      cut_copied w = record { short = λ u. record { stood = u.at; short = λ x. copy_cut u h c₀ c c' t s new r a l at live stands w } }

  module _ (h : ℕ) (c₀ c c' : Chip) (s : ℕ) (new : List ℕ) where
    -- the head is sealed
    pub leads_seal : Wrote (16 * h + 15) none c c' → LeadsBack B (copying h c₀ c (oldest B (h + B) + 15) s) (resting c' (spare B h)) (write (16 * h + 15) new ∷ [])
    leads_seal w = record { then = λ u. record { then = λ x d p m b k. seal u h c₀ c c' d s p new m b w k } }

    pub cut_sealed : CutWrote (16 * h + 15) none c c' → Cut B (copying h c₀ c (oldest B (h + B) + 15) s) c' (write (16 * h + 15) new ∷ [])
    cut_sealed w = record { short = λ u. record { stood = u.at; short = λ x. seal_cut u h c₀ c c' s new w } }
