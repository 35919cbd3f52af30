-- Whether a page of the ring holds a live value: the code asks the index, the theory the rows. Assumes nothing.
use mathlib.Core.Path.{◌≡◌, sym, ap, ◌∙◌, subst}
use mathlib.Core.Logic.{◌≢◌, ite}
use mathlib.Core.Bool.{true, false, not, true≢false}
use mathlib.Core.List.{List, [], ◌∷◌}
use mathlib.Core.Option.{some}
use Prim.Native.Nat.{ℕ, suc, ◌+◌, ◌-◌, ◌*◌, ◌/◌, ◌%◌, ◌≤◌, ◌<◌}
use native.Mathlib.Nat.{mod-eq_of_lt}
use native.Mathlib.Omega.{arith}
use lib.ListN.{length, take, get_or, length-take}
use lib.Seq.{get_or-take, take-length}
use borrow.Author.Tests.{eq-eqb}
use Rattle.chip.specs.Chip.{page_at}
use Rattle.page.proofs.All.{all_at}
use Rattle.record.specs.Record.{Rec, rec_at, key_at}
use Rattle.record.proofs.Reading.{some≢none, some_inj, says_key}
use Rattle.ring_log.specs.Key.{Key, key≟}
use Rattle.ring_log.specs.Map.{Map, lookup}
use Rattle.ring_log.specs.Log.{Placed, page_of, oldest, run, pages}
use Rattle.ring_log.specs.Ring.{chip_of, sealed, Ring}
use Rattle.ring_log.specs.Opening.{none_there}
use Rattle.ring_log.proofs.Window.{page_block}
use Rattle.ring_log.proofs.RingLaws.{round_first}
use Rattle.ring_log.proofs.LogLaws.{Stands}
use Rattle.ring_log.proofs.Clean.{run_sorted, run_stands}
use Rattle.ring_log.proofs.Place.{found_lookup, absent_lookup}
use Rattle.ring_log.proofs.Index.{pages_length, pages_at, same_place}
use Rattle.index.specs.Index.{keys_of, Ordered}
use Rattle.index.specs.Answers.{Finds}
use Rattle.index.proofs.Rows.{rows_ordered, nth, length_rows, before, behind}
use Rattle.std.specs.Prelude.{Option, Result, Ok, Err, Some, None}
use Rattle.clean.specs.Ends.{elsewhere, unlisted}
use Rattle.clean.specs.Steps.{LiveAt, Dead, Judges}

-- the search for the key on page q, whatever else that page says
module _ (c ix : List ℕ) (q : ℕ) (k : Key) (own : k ≡ key_at c q) (f : Result ℕ ℕ) (finds : Ordered c ix → Finds (keys_of c ix) k f) where
  -- the index has its live entries alone
  abbrev n : ℕ
  n = length ix

  -- q is place t
  module _ (B h t s : ℕ) (big : 4 ≤ B) (size : length c ≡ 4096 * B) (low : oldest B (h + B) ≤ t) (l : t < oldest B (h + B) + 15 * B) (top : s ≤ oldest B (h + B) + 15 * B)
      (at : q ≡ page_of B t) (m : take n ix ≡ pages B (run B (rec_at c) (h + B) s)) where
    abbrev rows : Map Placed
    rows = run B (rec_at c) (h + B) s

    found : Finds (keys_of c (pages B rows)) k f
    found =
        let w : ix ≡ pages B rows = sym (take-length ix) ∙ m in
        subst (λ (p : List ℕ). Finds (keys_of c p) k f) w (finds (subst (Ordered c) (sym w) (rows_ordered B big c size (h + B) s)))

    -- the row of a record on this page is that of the key
    own_row : (r : Rec) (a : Placed) → rec_at c (page_of B t) ≡ some r → lookup r.key rows ≡ some a → lookup k rows ≡ some a
    own_row r a e d = subst (λ (y : Key). lookup y rows ≡ some a) (sym (own ∙ says_key c q r (ap (rec_at c) at ∙ e))) d

    -- it is missing
    dead_missing : (i : ℕ) → f ≡ Err i → Dead B c h t s
    dead_missing i e r a says live stands =
        let w : Finds (keys_of c (pages B rows)) k (Err i) = subst (Finds (keys_of c (pages B rows)) k) e found in
        let b : i ≤ length rows = omega (arith, w.says.0, length_rows B big c size (h + B) s k) in
        some≢none
        (sym (own_row r a says live)
        ∙ absent_lookup none_there k rows i b (before B big c size (h + B) s k i b w.says.1) (behind B big c size (h + B) s k i w.says.2))

    -- it stands at j
    module _ (j : ℕ) (e : f ≡ Ok j) (b : j < n) where
      here : Finds (keys_of c (pages B rows)) k (Ok j)
      here = subst (Finds (keys_of c (pages B rows)) k) e found

      inside : j < length rows
      inside = omega (arith, here.says.0, length_rows B big c size (h + B) s k)

      abbrev its : Placed
      its = (get_or rows j none_there).1

      key : k ≡ (get_or rows j none_there).0
      key = here.says.1 ∙ nth B big c size (h + B) s k j inside

      row : lookup k rows ≡ some its
      row = found_lookup none_there k rows j (run_sorted B (rec_at c) (h + B) s) inside key

      page : get_or ix j 0 ≡ page_of B its.0
      page = sym (get_or-take n ix j 0 b) ∙ ap (λ (p : List ℕ). get_or p j 0) m ∙ pages_at B none_there rows j inside

      -- on this very page: the row says what stands there
      live_here : get_or ix j 0 ≡ q → LiveAt B c h t s j
      live_here d =
          let w : Stands B (rec_at c) (oldest B (h + B)) (s - oldest B (h + B)) k its = run_stands B (rec_at c) (h + B) s k its row in
          let z : its.0 ≡ t = same_place B (oldest B (h + B)) its.0 t w.from (omega (arith, w.below)) low l (sym page ∙ d ∙ at) in
          record {
            rec = w.rec;
            row = its;
            says = ap (λ (u : ℕ). rec_at c (page_of B u)) (sym z) ∙ w.there;
            live = subst (λ (y : Key). lookup y rows ≡ some its) (sym w.key) row;
            stands = z;
            inside = inside;
            entry = w.key ∙ key;
          }

      -- elsewhere
      dead_elsewhere : get_or ix j 0 ≢ q → Dead B c h t s
      dead_elsewhere d r a says live stands =
          d (page ∙ ap (λ (y : Placed). page_of B y.0) (some_inj (sym row ∙ own_row r a says live)) ∙ ap (page_of B) stands ∙ sym at)

  -- ---- WHAT THE CODE ANSWERS of page q
  pub judge_missing : (i : ℕ) → f ≡ Err i → Judges c ix n q None
  judge_missing i e = record { one = λ B h t s big size low l top at m. dead_missing B h t s big size low l top at m i e }

  module _ (j : ℕ) (e : f ≡ Ok j) (b : j < n) where
    pub judge_here : get_or ix j 0 ≡ q → Judges c ix n q (Some j)
    judge_here d = record { one = λ B h t s big size low l top at m. live_here B h t s big size low l top at m j e b d }

    pub judge_elsewhere : get_or ix j 0 ≢ q → Judges c ix n q None
    judge_elsewhere d = record { one = λ B h t s big size low l top at m. dead_elsewhere B h t s big size low l top at m j e b d }

-- ---- A BLOCK WITHOUT ENTRIES

module _ (B : ℕ) where
  -- page p stands in the index of the rows m
  abbrev Has : Map Placed → ℕ → Type 0
  Has m p = (j : ℕ) × (j < length m) × (get_or (pages B m) j 0 ≡ p)

  -- the page of each row does
  listed : (k : Key) (a : Placed) (m : Map Placed) → lookup k m ≡ some a → Has m (page_of B a.0)
  unfolding lookup
  listed k a [] e = absurd (some≢none (sym e))
  listed k a (p ∷ m) e = go (key≟ k p.0) e (listed k a m)
    where
      go : (d : Dec (k ≡ p.0)) → ite d (some p.1) (lookup k m) ≡ some a → (lookup k m ≡ some a → Has m (page_of B a.0)) → Has (p ∷ m) (page_of B a.0)
      go (yes _) q more = (0, omega arith, ap (λ (y : Placed). page_of B y.0) (some_inj q))
      go (no _) q more = let w = more q in (suc w.0, omega (arith, w.1), w.2)

-- a page of it holds no live value
module _ (c ix : List ℕ) (n q x : ℕ) (u : unlisted x ix n ≡ true) (b : q / 16 ≡ x) where
  pub judge_unlisted : Judges c ix n q None
  unfolding unlisted
  judge_unlisted =
      record {
        one = λ B h t s big size low l top at m r a says live stands.
            let w = listed B r.key a (run B (rec_at c) (h + B) s) live in
            let less : w.0 < n = omega (arith, w.1, pages_length B (run B (rec_at c) (h + B) s), ap length m, length-take n ix) in
            let e : get_or ix w.0 0 / 16 ≡ x =
            ap (λ (p : ℕ). p / 16)
            (sym (get_or-take n ix w.0 0 less) ∙ ap (λ (p : List ℕ). get_or p w.0 0) m ∙ w.2 ∙ ap (page_of B) stands ∙ sym at) ∙ b in
            true≢false (sym (all_at (λ j. elsewhere x (get_or ix j 0)) n w.0 less u) ∙ ap not (eq-eqb _ _ e));
      }

-- ---- A BLOCK THAT ISN'T SEALED: in the first round no page of it was written yet
pub dead_unused : (B : ℕ) → 4 ≤ B → (c : List ℕ) (h i s : ℕ) → i < 15 → Ring B (chip_of c) h → sealed (chip_of c) ((h + 2) % B) ≡ false
    → Dead B c h (oldest B (h + B) + i) s
dead_unused B big c h i s l ring u r a says live stands =
    let t : ℕ = oldest B (h + B) + i in
    let z : t / 15 ≡ h + 2 = omega arith in
    let b : page_of B t / 16 ≡ (h + 2) % B = page_block B t ∙ ap (λ (x : ℕ). x % B) z in
    let f = round_first B big (chip_of c) h ring u in
    let w : (h + 2) % B ≡ h + 2 = mod-eq_of_lt f.0 in
    some≢none (sym says ∙ (chip_of c).honest (page_of B t) (f.1.above (page_of B t) (omega (arith, b, w)) (omega (arith, b, w, f.0))))

-- ---- WHAT WAS READ, by another name of the bytes
module _ {c d : List ℕ} (e : d ≡ c) where
  pub judged_at : {ix : List ℕ} {n q : ℕ} {r : Option ℕ} → Judges d ix n q r → Judges c ix n q r
  judged_at {ix} {n} {q} {r} x = subst (λ (b : List ℕ). Judges b ix n q r) e x

  pub page_read : (q : ℕ) {pg : List ℕ} → pg ≡ page_at d q → pg ≡ page_at c q
  page_read q x = x ∙ ap (λ (b : List ℕ). page_at b q) e
