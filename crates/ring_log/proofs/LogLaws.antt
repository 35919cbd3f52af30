-- The log of a run of places: split, unchanged, empty, grown by a write; and where the values of its map stand.
-- Assumes nothing.
use mathlib.Core.Path.{◌≡◌, refl, sym, ap, ◌∙◌}
use mathlib.Core.Logic.{◌≢◌, ite}
use mathlib.Core.List.{List, [], ◌∷◌, ◌++◌, append_assoc, append-nil}
use mathlib.Core.Option.{Option, none, some, get_or}
use Prim.Native.Nat.{ℕ, zero, suc, ◌+◌, ◌*◌, ◌≤◌, ◌<◌}
use native.Mathlib.Nat.{zero-add, add-zero, suc-add}
use native.Mathlib.Omega.{arith}
use Rattle.record.specs.Record.{Rec}
use Rattle.ring_log.specs.Key.{Key, key≟}
use Rattle.ring_log.specs.Map.{lookup, map_o}
use Rattle.ring_log.specs.Log.{Entry, or_else, replay, newest, Recs, Placed, placed, page_of, entry, log_from}
use Rattle.ring_log.proofs.ReplayLaws.{map_e, newest_append, lookup_replay, forget}
use Rattle.ring_log.proofs.MapLaws.{some≢none, some_inj}
use Rattle.ring_log.proofs.Window.{page_inj, page_round}

-- ---- a run of places

module _ (B : ℕ) where
  -- the log of m + n places is that of m, and that of the n after them
  pub log_from_add : (recs : Recs) (s m n : ℕ) → log_from B recs s (m + n) ≡ log_from B recs s m ++ log_from B recs (s + m) n
  unfolding log_from
  log_from_add recs s zero n = rw (zero-add, add-zero)
  log_from_add recs s (suc m) n =
      let e : suc s + m ≡ s + suc m = omega arith in
      ap (log_from B recs s) (suc-add m n)
      ∙ ap (λ (l : List (Entry Placed)). entry s (recs (page_of B s)) ++ l) (log_from_add recs (suc s) m n)
      ∙ sym (append_assoc (entry s (recs (page_of B s))) (log_from B recs (suc s) m) (log_from B recs (suc s + m) n))
      ∙ ap (λ (t : ℕ). entry s (recs (page_of B s)) ++ log_from B recs (suc s) m ++ log_from B recs t n) e

  -- it is the same where the pages of its places say the same
  pub log_from_cong : (recs recs' : Recs) (s n : ℕ) → ((t : ℕ) → s ≤ t → t < s + n → recs' (page_of B t) ≡ recs (page_of B t)) → log_from B recs' s n ≡ log_from B recs s n
  unfolding log_from
  log_from_cong recs recs' s zero h = refl
  log_from_cong recs recs' s (suc n) h =
      rw (h s (omega arith) (omega arith), log_from_cong recs recs' (suc s) n (λ t a b. h t (omega arith) (omega arith)))

  -- it is empty where they say nothing
  pub log_from_empty : (recs : Recs) (s n : ℕ) → ((t : ℕ) → s ≤ t → t < s + n → entry t (recs (page_of B t)) ≡ []) → log_from B recs s n ≡ []
  unfolding log_from
  log_from_empty recs s zero h = refl
  log_from_empty recs s (suc n) h =
      rw (h s (omega arith) (omega arith)) (log_from_empty recs (suc s) n (λ t a b. h t (omega arith) (omega arith)))

  -- places that say nothing may be left off at the end
  pub log_from_trim : (recs : Recs) (s m n : ℕ) → ((t : ℕ) → s + m ≤ t → t < s + m + n → entry t (recs (page_of B t)) ≡ []) → log_from B recs s (m + n) ≡ log_from B recs s m
  log_from_trim recs s m n h =
      log_from_add recs s m n ∙ ap (λ (l : List (Entry Placed)). log_from B recs s m ++ l) (log_from_empty recs (s + m) n h) ∙ append-nil (log_from B recs s m)

  -- ---- a write at the place after the run

  -- place s says r now, and all else is as it was
  pub record Added (s : ℕ) (r : Rec) (recs recs' : Recs) : Type 0 where
    pub here : recs' (page_of B s) ≡ some r
    pub elsewhere : (p : ℕ) → p ≢ page_of B s → recs' p ≡ recs p

  -- the run before the place that is written
  pub log_from_before : (recs recs' : Recs) (o n : ℕ) (r : Rec) → n < 15 * B → Added (o + n) r recs recs' → log_from B recs' o n ≡ log_from B recs o n
  log_from_before recs recs' o n r h w =
      log_from_cong recs recs' o n
      (λ t a b. w.elsewhere (page_of B t) (λ e. omega (arith, page_inj B t (o + n) (omega arith) (omega arith) e)))

  -- the run with the place that is written: one entry more
  pub log_from_grow : (recs recs' : Recs) (o n : ℕ) (r : Rec) → n < 15 * B → Added (o + n) r recs recs'
      → log_from B recs' o (suc n) ≡ log_from B recs o n ++ ((r.key, map_o (placed (o + n)) r.what) ∷ [])
  unfolding log_from
  log_from_grow recs recs' o n r h w =
      let e : suc n ≡ n + 1 = omega arith in
      ap (log_from B recs' o) e
      ∙ log_from_add recs' o n 1
      ∙ rw (log_from_before recs recs' o n r h w, w.here)

  -- ---- where the values of the map stand

  -- the value a of k stands at its place, on a page of the run that says so
  pub record Stands (recs : Recs) (s n : ℕ) (k : Key) (a : Placed) : Type 0 where
    pub rec : Rec
    pub there : recs (page_of B a.0) ≡ some rec
    pub key : rec.key ≡ k
    pub what : rec.what ≡ some a.1
    pub from : s ≤ a.0
    pub below : a.0 < s + n

  entry_stands : (s : ℕ) (x : Option Rec) (k : Key) (a : Placed) → newest k (entry s x) ≡ some (some a)
      → (r : Rec) × (x ≡ some r) × (r.key ≡ k) × (r.what ≡ some a.1) × (a.0 ≡ s)
  entry_stands s none k a e = absurd (some≢none (sym e))
  entry_stands s (some r) k a e = out (key≟ k r.key) r.what refl e
    where
      out : (d : Dec (k ≡ r.key)) (o : Option (List ℕ)) → r.what ≡ o
          → ◌≡◌ {A = Option (Option Placed)} (ite d (some (map_o (placed s) o)) none) (some (some a))
          → (q : Rec) × (some r ≡ some q) × (q.key ≡ k) × (q.what ≡ some a.1) × (a.0 ≡ s)
      out (no d) o eo e = absurd (some≢none (sym e))
      out (yes d) none eo e = absurd (some≢none (sym (some_inj e)))
      out (yes d) (some v) eo e =
          let q : placed s v ≡ a = some_inj (some_inj e) in
          (r, refl, sym d, eo ∙ ap (λ (x : Placed). some x.1) q, sym (ap (λ (x : Placed). x.0) q))

  newest_stands : (recs : Recs) (s n : ℕ) (k : Key) (a : Placed) → newest k (log_from B recs s n) ≡ some (some a) → Stands recs s n k a
  unfolding log_from
  newest_stands recs s zero k a e = absurd (some≢none (sym e))
  newest_stands recs s (suc n) k a e =
      go (newest k (log_from B recs (suc s) n)) refl (newest_stands recs (suc s) n k a)
      (sym (newest_append k (entry s (recs (page_of B s))) (log_from B recs (suc s) n)) ∙ e)
    where
      go : (x : Option (Option Placed)) → newest k (log_from B recs (suc s) n) ≡ x
          → (newest k (log_from B recs (suc s) n) ≡ some (some a) → Stands recs (suc s) n k a)
          → or_else (newest k (log_from B recs (suc s) n)) (newest k (entry s (recs (page_of B s)))) ≡ some (some a)
          → Stands recs s (suc n) k a
      go (some x) ex ih e =
          let t : Stands recs (suc s) n k a = ih (ex ∙ rw ex at e) in
          record { rec = t.rec; there = t.there; key = t.key; what = t.what; from = omega arith; below = omega arith }
      go none ex ih e =
          let (r, c0, c1, c2, c4) = entry_stands s (recs (page_of B s)) k a (rw ex at e) in
          record { rec = r; there = ap (λ (t : ℕ). recs (page_of B t)) c4 ∙ c0; key = c1; what = c2; from = omega arith; below = omega arith }

  -- a value of the map stands on its page, within the run
  pub row_stands : (recs : Recs) (s n : ℕ) (k : Key) (a : Placed) → lookup k (replay (log_from B recs s n) []) ≡ some a → Stands recs s n k a
  unfolding lookup
  row_stands recs s n k a e = go (newest k (log_from B recs s n)) refl (sym (lookup_replay k (log_from B recs s n) [] tt) ∙ e)
    where
      go : (x : Option (Option Placed)) → newest k (log_from B recs s n) ≡ x → get_or (newest k (log_from B recs s n)) none ≡ some a → Stands recs s n k a
      go none ex e = absurd (some≢none (sym (rw ex at e)))
      go (some x) ex e = newest_stands recs s n k a (ex ∙ ap some (rw ex at e))

  -- CLEANING: if no value of the map stands in the first m places, they may go
  pub drop_front : (recs : Recs) (s m n : ℕ)
      → ((k : Key) (a : Placed) → lookup k (replay (log_from B recs s (m + n)) []) ≡ some a → s + m ≤ a.0)
      → replay (log_from B recs s (m + n)) [] ≡ replay (log_from B recs (s + m) n) []
  drop_front recs s m n h =
      ap (λ (l : List (Entry Placed)). replay l []) (log_from_add recs s m n)
      ∙ forget (log_from B recs s m) (log_from B recs (s + m) n)
      (λ k a e d. far (newest_stands recs s m k a e) (h k a (rw (log_from_add recs s m n) d)))
    where
      far : {k : Key} {a : Placed} → Stands recs s m k a → s + m ≤ a.0 → ⊥
      far t g = omega arith

  -- ---- a whole ring further on the log is the same, but for the numbers of its places

  -- a place a whole ring further on
  abbrev pub up : Placed → Placed
  up a = (15 * B + a.0, a.1)

  entry_up : (s : ℕ) (x : Option Rec) → entry (15 * B + s) x ≡ map_e up (entry s x)
  entry_up s none = refl
  entry_up s (some r) = ap (λ (o : Option Placed). (r.key, o) ∷ []) (go r.what)
    where
      go : (o : Option (List ℕ)) → map_o (placed (15 * B + s)) o ≡ map_o up (map_o (placed s) o)
      go none = refl
      go (some v) = refl

  map_e_append : (a b : List (Entry Placed)) → map_e up (a ++ b) ≡ map_e up a ++ map_e up b
  map_e_append [] b = refl
  map_e_append (x ∷ a) b = ap (λ (l : List (Entry Placed)). (x.0, map_o up x.1) ∷ l) (map_e_append a b)

  -- and so the log, but for those numbers
  pub log_from_up : (recs : Recs) (s n : ℕ) → log_from B recs (15 * B + s) n ≡ map_e up (log_from B recs s n)
  unfolding log_from
  log_from_up recs s zero = refl
  log_from_up recs s (suc n) =
      let q : suc (15 * B + s) ≡ 15 * B + suc s = omega arith in
      ap (λ (p : ℕ). entry (15 * B + s) (recs p) ++ log_from B recs (suc (15 * B + s)) n) (page_round B s)
      ∙ ap (λ (l : List (Entry Placed)). l ++ log_from B recs (suc (15 * B + s)) n) (entry_up s (recs (page_of B s)))
      ∙ ap (λ (x : ℕ). map_e up (entry s (recs (page_of B s))) ++ log_from B recs x n) q
      ∙ ap (λ (l : List (Entry Placed)). map_e up (entry s (recs (page_of B s))) ++ l) (log_from_up recs (suc s) n)
      ∙ sym (map_e_append (entry s (recs (page_of B s))) (log_from B recs (suc s) n))
