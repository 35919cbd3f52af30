-- What the replay of start needs: the run, place by place. And a blank chip.
-- Assumes nothing.
use mathlib.Core.Path.{◌≡◌, ap, ◌∙◌}
use mathlib.Core.Logic.{inl}
use mathlib.Core.List.{List, [], ◌++◌, append-nil}
use mathlib.Core.Option.{Option, none, some}
use mathlib.Core.Bool.{false}
use Prim.Native.Nat.{ℕ, suc, ◌+◌, ◌-◌, ◌*◌, ◌≤◌, ◌<◌}
use native.Mathlib.Nat.{not-suc-le-zero}
use native.Mathlib.Omega.{arith}
use Rattle.record.specs.Record.{Rec}
use Rattle.ring_log.specs.Map.{alter, map_o}
use Rattle.ring_log.specs.Log.{Entry, replay, Recs, Placed, placed, page_of, entry, log_from, oldest, run, bytes}
use Rattle.ring_log.specs.Ring.{Chip, Ring, table, map_of}
use Rattle.ring_log.proofs.Window.{page_lt}
use Rattle.ring_log.proofs.ReplayLaws.{replay_append}
use Rattle.ring_log.proofs.LogLaws.{log_from_add, log_from_empty}
use Rattle.ring_log.proofs.Steps.{table_at_lem}

module _ (B : ℕ) (recs : Recs) where
  module _ (e : ℕ) where
    -- no place: the empty map
    pub run_empty : run B recs e (oldest B e) ≡ []
    unfolding run log_from
    run_empty = ap (λ (n : ℕ). replay (log_from B recs (oldest B e) n) []) (let z : oldest B e - oldest B e ≡ 0 = omega arith in z)

    -- one place more
    pub run_next : (s : ℕ) → oldest B e ≤ s → run B recs e (suc s) ≡ replay (entry s (recs (page_of B s))) (run B recs e s)
    unfolding run log_from
    run_next s h =
        let n : ℕ = s - oldest B e in
        let q : suc s - oldest B e ≡ n + 1 = omega arith in
        let o : oldest B e + n ≡ s = omega arith in
        ap (λ (x : ℕ). replay (log_from B recs (oldest B e) x) []) q
        ∙ ap (λ (l : List (Entry Placed)). replay l [])
        (log_from_add B recs (oldest B e) n 1
        ∙ ap (λ (x : ℕ). log_from B recs (oldest B e) n ++ log_from B recs x 1) o
        ∙ ap (λ (l : List (Entry Placed)). log_from B recs (oldest B e) n ++ l) (append-nil (entry s (recs (page_of B s)))))
        ∙ replay_append (log_from B recs (oldest B e) n) (entry s (recs (page_of B s))) []

    -- a place that says nothing
    pub run_none : (s : ℕ) → oldest B e ≤ s → recs (page_of B s) ≡ none → run B recs e (suc s) ≡ run B recs e s
    run_none s h x = run_next s h ∙ ap (λ (y : Option Rec). replay (entry s y) (run B recs e s)) x

    -- a place that says r
    pub run_own : (s : ℕ) (r : Rec) → oldest B e ≤ s → recs (page_of B s) ≡ some r
        → run B recs e (suc s) ≡ alter r.key (map_o (placed s) r.what) (run B recs e s)
    run_own s r h x = run_next s h ∙ ap (λ (y : Option Rec). replay (entry s y) (run B recs e s)) x

-- ---- a blank chip: block 0 is the head, the map is empty

module _ (B : ℕ) (big : 4 ≤ B) (c : Chip) (h : (p : ℕ) → p < 16 * B → c.full p ≡ false) where
  -- A BLANK CHIP IS A RING, with block 0 as the head
  pub blank_ring : Ring B c 0
  blank_ring =
      record {
        inside = omega arith;
        unsealed = h 15 (omega arith);
        shape = inl (record { below = λ b l. absurd (not-suc-le-zero l); above = λ p a b. h p b });
      }

  -- A BLANK CHIP HAS THE EMPTY MAP
  pub blank_table : table B c ≡ []
  unfolding run
  blank_table =
      table_at_lem B big c 0 blank_ring
      ∙ ap (λ (l : List (Entry Placed)). replay l [])
      (log_from_empty B c.recs (oldest B (0 + B)) (15 * (0 + B) + 15 - oldest B (0 + B))
      (λ t a b. ap (entry t) (c.honest (page_of B t) (h (page_of B t) (page_lt B t (omega arith))))))

  -- and so the map
  pub blank_map : map_of B c ≡ []
  unfolding map_of
  blank_map = ap bytes blank_table
