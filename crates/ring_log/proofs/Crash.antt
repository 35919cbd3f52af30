-- Each operation of the store, whole or cut: what it makes of ring and map. Assumes nothing.
use mathlib.Core.Path.{◌≡◌, refl, sym, ap, ◌∙◌, subst}
use mathlib.Core.Logic.{◌≢◌, ◌⊎◌, inl, inr}
use mathlib.Core.Option.{Option, none, some}
use mathlib.Core.Bool.{Bool, true, false}
use Prim.Native.Nat.{ℕ, suc, ◌+◌, ◌-◌, ◌*◌, ◌%◌, ◌≤◌, ◌<◌}
use Rattle.record.specs.Record.{Rec}
use Rattle.ring_log.specs.Map.{lookup, alter}
use Rattle.ring_log.specs.Log.{Placed, page_of, oldest, run}
use Rattle.ring_log.specs.Ring.{Chip, sealed, spare, Ring, next, map_of}
use Rattle.ring_log.specs.Call.{Page, Block, Erased, Wrote, CutWrote}
use Rattle.ring_log.specs.Opening.{Opening, fresh}
use Rattle.ring_log.proofs.MapLaws.{some_inj}
use Rattle.ring_log.proofs.LogLaws.{Stands}
use Rattle.ring_log.proofs.RingLaws.{round_later}
use Rattle.ring_log.proofs.Clean.{run_stands}
use Rattle.ring_log.proofs.Steps.{Written, Spoilt, block_ring, block_map, unsealed_ring}
use Rattle.ring_log.proofs.Opening.{opening_none, opening_dead, opening_erased, copy_cut, opening_copy, sealing_none, opening_ring, opening_map}
use Rattle.ring_log.proofs.Append.{place, place_page, put_ring, put_map, lost_ring, lost_map}

-- a write at place s, whole; and cut: it says what was meant, or nothing
pub written_at : (B s : ℕ) (x : Rec) (c c' : Chip) → Wrote (page_of B s) (some x) c c' → Written B s x c c'
written_at B s x c c' w = record { page = w.page; here = w.says }

-- cut: what was meant, or nothing
pub cut_at : (B s : ℕ) (x : Rec) (c c' : Chip) → CutWrote (page_of B s) (some x) c c' → Written B s x c c' ⊎ Spoilt B s c c'
cut_at B s x c c' w = go w.says
  where
    go : (c'.recs (page_of B s) ≡ some x) ⊎ (c'.recs (page_of B s) ≡ none) → Written B s x c c' ⊎ Spoilt B s c c'
    go (inl e) = inl (record { page = w.page; here = e })
    go (inr e) = inr (record { page = w.page; here = e })

module _ (B : ℕ) (big : 4 ≤ B) (c c' : Chip) (h : ℕ) where
  -- ---- THE APPEND, whole: the map is altered. Cut: it is altered or not
  module _ (r : Ring B c h) (free : next c h < 15) (x : Rec) where
    here : 16 * h + next c h ≡ page_of B (place B big c h)
    here = sym (place_page B big c c' h r free)

    -- at the next place, whole
    pub append_written : Wrote (16 * h + next c h) (some x) c c' → Written B (place B big c h) x c c'
    append_written w = written_at B (place B big c h) x c c' (subst (λ (p : ℕ). Wrote p (some x) c c') here w)

    -- cut
    pub append_cut_at : CutWrote (16 * h + next c h) (some x) c c' → Written B (place B big c h) x c c' ⊎ Spoilt B (place B big c h) c c'
    append_cut_at w = cut_at B (place B big c h) x c c' (subst (λ (p : ℕ). CutWrote p (some x) c c') here w)

    -- whole: the map is altered
    pub append_done : Wrote (16 * h + next c h) (some x) c c' → (Ring B c' h) × (map_of B c' ≡ alter x.key x.what (map_of B c))
    append_done w = (put_ring B big c c' h r free x (append_written w), put_map B big c c' h r free x (append_written w))

    -- cut: before or after
    pub append_lost : CutWrote (16 * h + next c h) (some x) c c'
        → (Ring B c' h) × ((map_of B c' ≡ map_of B c) ⊎ (map_of B c' ≡ alter x.key x.what (map_of B c)))
    append_lost w = go (append_cut_at w)
      where
        go : Written B (place B big c h) x c c' ⊎ Spoilt B (place B big c h) c c'
            → (Ring B c' h) × ((map_of B c' ≡ map_of B c) ⊎ (map_of B c' ≡ alter x.key x.what (map_of B c)))
        go (inl v) = (put_ring B big c c' h r free x v, inr (put_map B big c c' h r free x v))
        go (inr v) = (lost_ring B big c c' h r free v, inl (lost_map B big c c' h r free v))

  -- ---- THE ERASE of the spare, where the oldest block is sealed. NO ERASE CHANGES THE MAP: whole or cut, whatever it leaves
  module _ (r : Ring B c h) (t : sealed c ((h + 2) % B) ≡ true) where
    -- in any case: the same ring, the same map
    pub erase_lost : Block (spare B h) c c' → (Ring B c' h) × (map_of B c' ≡ map_of B c)
    erase_lost w = (block_ring B big c c' h r w (round_later B big c h r t), block_map B big c c' h r w (round_later B big c h r t))

    -- whole: the opening begins
    pub erase_done : Erased (spare B h) c c' → Opening B h c c' (oldest B (h + B)) (fresh B h)
    erase_done w = opening_erased B big h c c' r t w.block w.blank

  -- ---- A PLACE of the oldest block that has no live value
  pub skip_done : (c₀ : Chip) (t s : ℕ) → t < oldest B (h + B) + 15
      → ((r : Rec) (a : Placed) → c.recs (page_of B t) ≡ some r → lookup r.key (run B c.recs (h + B) s) ≡ some a → a.0 ≢ t)
      → Opening B h c₀ c t s → Opening B h c₀ c (suc t) s
  skip_done c₀ t s l dead o = go (c.recs (page_of B t)) refl
    where
      go : (x : Option Rec) → c.recs (page_of B t) ≡ x → Opening B h c₀ c (suc t) s
      go none e = opening_none B big h c₀ c t s l e o
      go (some r) e = opening_dead B big h c₀ c t s r l e (λ a d. dead r a e d) o

  -- ---- A COPY of a live value into the spare. Cut: not even what was written counts
  module _ (c₀ : Chip) (t s : ℕ) (r : Rec) (a : Placed)
      (low : oldest B (h + B) ≤ t) (l : t < oldest B (h + B) + 15) (at : c.recs (page_of B t) ≡ some r)
      (live : lookup r.key (run B c.recs (h + B) s) ≡ some a) (stands : a.0 ≡ t)
      (o : Opening B h c₀ c t s) where
    -- the row of a live value has the value that the page has
    pub live_what : r.what ≡ some a.1
    live_what =
        let w : Stands B c.recs (oldest B (h + B)) (s - oldest B (h + B)) r.key a = run_stands B c.recs (h + B) s r.key a live in
        ap (λ (y : Rec). y.what) (some_inj (sym at ∙ ap (λ (u : ℕ). c.recs (page_of B u)) (sym stands) ∙ w.there)) ∙ w.what

    -- whole: the loop goes on
    pub copy_done : Wrote (page_of B s) (some r) c c' → Opening B h c₀ c' (suc t) (suc s)
    copy_done w = opening_copy B big h c₀ c c' t s r r a low l at live stands o refl live_what (written_at B s r c c' w)

    -- cut: the same ring, the same map
    pub copy_lost : CutWrote (page_of B s) (some r) c c' → (Ring B c' h) × (map_of B c' ≡ map_of B c₀)
    copy_lost w = copy_cut B big h c₀ c c' t s r r a low l at live stands o w.page

  -- ---- THE SEAL moves the ring on by one; the map stays. Cut: it has moved on, or not; not one fact about what the page says is used
  module _ (c₀ : Chip) (s : ℕ) (o : Opening B h c₀ c (oldest B (h + B) + 15) s) where
    -- whole: the spare is the head, the map is the same
    pub seal_done : Wrote (16 * h + 15) none c c' → (Ring B c' (spare B h)) × (map_of B c' ≡ map_of B c₀)
    seal_done w = (opening_ring B big h c₀ c c' s o w.page w.fills, opening_map B big h c₀ c c' s o w.page w.fills)

    -- cut: a ring, with the same map
    pub seal_lost : Page (16 * h + 15) c c' → ((k : ℕ) × Ring B c' k) × (map_of B c' ≡ map_of B c₀)
    seal_lost w = go (sealed c' h) refl
      where
        go : (b : Bool) → sealed c' h ≡ b → ((k : ℕ) × Ring B c' k) × (map_of B c' ≡ map_of B c₀)
        go true on = ((spare B h, opening_ring B big h c₀ c c' s o w on), opening_map B big h c₀ c c' s o w on)
        go false off = ((h, unsealed_ring B big c c' h o.ring w off), sealing_none B big h c₀ c c' s o w off)
