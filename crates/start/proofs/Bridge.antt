-- The replay of a page into the index, and of the whole log. Assumes nothing.
use mathlib.Core.Path.{◌≡◌, sym, ap, ◌∙◌, subst}
use mathlib.Core.List.{List, []}
use mathlib.Core.Option.{some}
use mathlib.Core.Bool.{true, false}
use Prim.Native.Nat.{ℕ, zero, suc, ◌+◌, ◌-◌, ◌*◌, ◌%◌, ◌≤◌, ◌<◌}
use native.Mathlib.Omega.{arith}
use lib.ListN.{length}
use Rattle.record.specs.Record.{Rec, rec_at, record_of, key_at}
use Rattle.record.specs.Kinds.{kind_of}
use Rattle.record.specs.declared.Kind.TheVariants.{Value, Note}
use Rattle.std.specs.Prelude.{Result, Some, None}
use Rattle.record.proofs.Reading.{says_key, kind_value, kind_note, kind_nothing}
use Rattle.ring_log.specs.Key.{Key}
use Rattle.ring_log.specs.Log.{placed, oldest, run, pages}
use Rattle.ring_log.specs.Ring.{chip_of, table_at}
use Rattle.ring_log.proofs.Window.{page_at_lem}
use Rattle.ring_log.proofs.Start.{run_empty, run_none, run_own}
use Rattle.index.specs.Index.{keys_of, Ordered}
use Rattle.index.specs.Answers.{Finds, put_at, take_out}
use Rattle.index.proofs.Rows.{rows_ordered, put_row, take_row}
use Rattle.ring.specs.Seals.{Begins}
use Rattle.start.specs.Replay.{Replays, ReplaysTo}

-- ---- A PAGE IS REPLAYED, by what it says
module _ (c : List ℕ) (p : ℕ) (ps ps' : List ℕ) where
  pub replays_nothing : kind_of (rec_at c p) ≡ None → ps' ≡ ps → Replays c p ps ps'
  replays_nothing q d =
      record { one = λ B e s big size low at h. d ∙ h ∙ ap (pages B) (sym (run_none B (rec_at c) e s low (ap (rec_at c) (sym at) ∙ kind_nothing (rec_at c p) q))) }

  module _ (k : Key) (f : Result ℕ ℕ) (same : k ≡ key_at c p) (finds : Ordered c ps → Finds (keys_of c ps) k f) where
    -- the search in the index of the places before s
    search_rows : (B e s : ℕ) → 4 ≤ B → length c ≡ 4096 * B → ps ≡ pages B (run B (rec_at c) e s) → (r : Rec) → rec_at c p ≡ some r
        → Finds (keys_of c (pages B (run B (rec_at c) e s))) r.key f
    search_rows B e s big size h r at =
        subst (λ (x : Key). Finds (keys_of c (pages B (run B (rec_at c) e s))) x f) (same ∙ says_key c p r at)
        (subst (λ (l : List ℕ). Finds (keys_of c l) k f) h (finds (subst (Ordered c) (sym h) (rows_ordered B big c size e s))))

    pub replays_value : kind_of (rec_at c p) ≡ Some Value → ps' ≡ put_at f p ps → Replays c p ps ps'
    replays_value q d =
        let v = kind_value (rec_at c p) q in
        record {
          one = λ B e s big size low at h.
              d ∙ ap (put_at f p) h ∙ ap (λ (x : ℕ). put_at f x (pages B (run B (rec_at c) e s))) at
              ∙ put_row B big c size e s v.0 f (search_rows B e s big size h (record_of false v.0 v.1) v.2) (placed s v.1)
              ∙ ap (pages B) (sym (run_own B (rec_at c) e s (record_of false v.0 v.1) low (ap (rec_at c) (sym at) ∙ v.2)));
        }

    pub replays_note : kind_of (rec_at c p) ≡ Some Note → ps' ≡ take_out f ps → Replays c p ps ps'
    replays_note q d =
        let v = kind_note (rec_at c p) q in
        record {
          one = λ B e s big size low at h.
              d ∙ ap (take_out f) h
              ∙ take_row B big c size e s v.0 f (search_rows B e s big size h (record_of true v.0 []) v.1)
              ∙ ap (pages B) (sym (run_own B (rec_at c) e s (record_of true v.0 []) low (ap (rec_at c) (sym at) ∙ v.1)));
        }

-- ---- A BLOCK IS REPLAYED, place by place
module _ (c : List ℕ) (x : ℕ) (ps : List ℕ) where
  pub block_begins : ReplaysTo c x 0 ps ps
  block_begins =
      record { one = λ B e y big size low at h. let z : 15 * y ≡ 15 * y + 0 = omega arith in h ∙ ap (λ (s : ℕ). pages B (run B (rec_at c) e s)) z }

  pub block_next : (j : ℕ) (ps₁ ps₂ : List ℕ) → j < 15 → ReplaysTo c x j ps ps₁ → Replays c (16 * x + j) ps₁ ps₂ → ReplaysTo c x (j + 1) ps ps₂
  block_next j ps₁ ps₂ l a b =
      record {
        one = λ B e y big size low at h.
            let z : suc (15 * y + j) ≡ 15 * y + (j + 1) = omega arith in
            b.one B e (15 * y + j) big size (omega arith) (ap (λ (k : ℕ). 16 * k + j) at ∙ sym (page_at_lem B y j l)) (a.one B e y big size low at h)
            ∙ ap (λ (s : ℕ). pages B (run B (rec_at c) e s)) z;
      }

  pub block_ends : (j : ℕ) (ps₁ : List ℕ) → j ≡ 15 → ReplaysTo c x j ps ps₁ → ReplaysTo c x 15 ps ps₁
  block_ends j ps₁ e a = subst (λ (i : ℕ). ReplaysTo c x i ps ps₁) e a

-- ---- THE REPLAY BEGINS, GOES ON, AND IS THROUGH
module _ (B h : ℕ) (c : List ℕ) where
  abbrev rows : ℕ → List ℕ
  rows s = pages B (run B (rec_at c) (h + B) s)

  -- the places before it say nothing
  pub rows_begin : (r : ℕ) → Begins B (chip_of c) h r → [] ≡ rows (15 * (h + r))
  rows_begin r b =
      let n : oldest B (h + B) + 15 * (r - 2) ≡ 15 * (h + r) = omega (arith, b.range.0) in
      ap (pages B) (sym (run_empty B (rec_at c) (h + B))) ∙ go (15 * (r - 2)) (omega arith) ∙ ap rows n
    where
      go : (n : ℕ) → n ≤ 15 * (r - 2) → rows (oldest B (h + B)) ≡ rows (oldest B (h + B) + n)
      go zero l = let z : oldest B (h + B) ≡ oldest B (h + B) + 0 = omega arith in ap rows z
      go (suc n) l =
          let s : ℕ = oldest B (h + B) + n in
          let z : suc s ≡ oldest B (h + B) + suc n = omega arith in
          go n (omega arith) ∙ ap (pages B) (sym (run_none B (rec_at c) (h + B) s (omega arith) (b.silent s (omega arith) (omega (arith, b.range.0))))) ∙ ap rows z

  -- one block more
  pub rows_next : (x k : ℕ) (ps ps' : List ℕ) → 4 ≤ B → length c ≡ 4096 * B → 2 ≤ k → x ≡ (h + k) % B → ReplaysTo c x 15 ps ps' → ps ≡ rows (15 * (h + k))
      → ps' ≡ rows (15 * (h + (k + 1)))
  rows_next x k ps ps' big size l e b d =
      let z : 15 * (h + k) + 15 ≡ 15 * (h + (k + 1)) = omega arith in
      b.one B (h + B) (h + k) big size (omega arith) e d ∙ ap rows z

  pub rows_end : (ps : List ℕ) (k : ℕ) → k ≡ B + 1 → ps ≡ rows (15 * (h + k)) → ps ≡ pages B (table_at B (chip_of c) h)
  unfolding table_at
  rows_end ps k q d = let f : 15 * (h + k) ≡ 15 * (h + B) + 15 = omega arith in d ∙ ap rows f
