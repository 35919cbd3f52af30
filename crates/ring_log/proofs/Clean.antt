-- The loop that cleans the oldest block, place by place: when place t has been looked at, no value of the run stands at t or before.
-- A value is live exactly when the row of its key is this very place.
-- Assumes nothing.
use mathlib.Core.Path.{◌≡◌, sym, ap, ◌∙◌, subst}
use mathlib.Core.Logic.{◌≢◌}
use mathlib.Core.List.{[]}
use mathlib.Core.Option.{none, some}
use Prim.Native.Nat.{ℕ, suc, ◌-◌, ◌≤◌, ◌<◌}
use native.Mathlib.Omega.{arith}
use Rattle.record.specs.Record.{Rec}
use Rattle.ring_log.specs.Key.{Key, key≟}
use Rattle.ring_log.specs.Map.{lookup, alter, Sorted}
use Rattle.ring_log.specs.Log.{Recs, Placed, placed, page_of, log_from, oldest, run}
use Rattle.ring_log.specs.Opening.{From}
use Rattle.ring_log.proofs.MapLaws.{some_inj, some≢none, lookup_same, lookup_other}
use Rattle.ring_log.proofs.ReplayLaws.{sorted_replay}
use Rattle.ring_log.proofs.LogLaws.{Stands, row_stands}

module _ (B : ℕ) (recs : Recs) (e s : ℕ) where
  -- the map of a run is sorted
  pub run_sorted : Sorted (run B recs e s)
  unfolding run
  run_sorted = sorted_replay (log_from B recs (oldest B e) (s - oldest B e)) [] tt

  -- each of its values stands on its page
  pub run_stands : (k : Key) (a : Placed) → lookup k (run B recs e s) ≡ some a → Stands B recs (oldest B e) (s - oldest B e) k a
  unfolding run
  run_stands k a h = row_stands B recs (oldest B e) (s - oldest B e) k a h

  -- and not before the oldest block
  pub run_from : From (run B recs e s) (oldest B e)
  run_from k a h = let w : Stands B recs (oldest B e) (s - oldest B e) k a = run_stands k a h in w.from

  -- a row at place t is that of the record's key
  pub row_key : (t : ℕ) (r : Rec) → recs (page_of B t) ≡ some r → (k : Key) (a : Placed) → lookup k (run B recs e s) ≡ some a → a.0 ≡ t → r.key ≡ k
  row_key t r at k a h p =
      let w : Stands B recs (oldest B e) (s - oldest B e) k a = run_stands k a h in
      ap (λ (x : Rec). x.key) (some_inj (sym at ∙ ap (λ (x : ℕ). recs (page_of B x)) (sym p) ∙ w.there)) ∙ w.key

  -- a page without a record, or whose record is not live: nothing to copy
  pub skip_none : (t : ℕ) → recs (page_of B t) ≡ none → From (run B recs e s) t → From (run B recs e s) (suc t)
  skip_none t at f k a h =
      let w : Stands B recs (oldest B e) (s - oldest B e) k a = run_stands k a h in
      let n : a.0 ≢ t = λ p. some≢none (sym w.there ∙ ap (λ (x : ℕ). recs (page_of B x)) p ∙ at) in
      omega (arith, f k a h)

  -- one whose record is not live
  pub skip_dead : (t : ℕ) (r : Rec) → recs (page_of B t) ≡ some r → ((a : Placed) → lookup r.key (run B recs e s) ≡ some a → a.0 ≢ t) → From (run B recs e s) t → From (run B recs e s) (suc t)
  skip_dead t r at dead f k a h =
      let n : a.0 ≢ t = λ p. dead a (subst (λ (x : Key). lookup x (run B recs e s) ≡ some a) (sym (row_key t r at k a h p)) h) p in
      omega (arith, f k a h)

  -- a live value: after the copy to a later place u, its row stands there
  pub copied : (t u : ℕ) (r : Rec) (a : Placed) → recs (page_of B t) ≡ some r → lookup r.key (run B recs e s) ≡ some a → a.0 ≡ t → t < u
      → From (run B recs e s) t → From (alter r.key (some (placed u a.1)) (run B recs e s)) (suc t)
  copied t u r a at l p later f k c h = go (key≟ k r.key)
    where
      go : Dec (k ≡ r.key) → suc t ≤ c.0
      go (yes d) =
          let x : placed u a.1 ≡ c =
          some_inj
          (sym (lookup_same r.key (some (placed u a.1)) (run B recs e s) run_sorted)
          ∙ ap (λ (y : Key). lookup y (alter r.key (some (placed u a.1)) (run B recs e s))) (sym d)
          ∙ h) in
          omega (arith, ap (λ (y : Placed). y.0) x)
      go (no d) =
          let g : lookup k (run B recs e s) ≡ some c = sym (lookup_other k r.key (some (placed u a.1)) (run B recs e s) d) ∙ h in
          let n : c.0 ≢ t = λ q. d (sym (row_key t r at k c g q)) in
          omega (arith, f k c g)
