-- Where the cursor begins: the tests of the code. Assumes nothing.
use mathlib.Core.Path.{◌≡◌, refl, sym, ap, ◌∙◌, subst}
use mathlib.Core.List.{List, [], ◌∷◌}
use mathlib.Core.Option.{some}
use Prim.Native.Nat.{ℕ, zero, suc, ◌+◌, ◌-◌, ◌*◌, ◌/◌, ◌%◌, ◌≤◌, ◌<◌, min}
use native.Mathlib.Nat.{mod-lt, mod-eq_of_lt, add-mod_left}
use native.Mathlib.Numerals.{add-one}
use native.Mathlib.Decide.{dec_lt, ℕ_discrete}
use native.Mathlib.Omega.{arith}
use lib.ListN.{length, take, get_or}
use Rattle.std.proofs.Common.{fold}
use lib.Seq.{get_or-take, take_all}
use Rattle.std.proofs.lemmas.List.Sums.{fold_more}
use borrow.Author.Tests.{le-leb, lt-leb}
use Rattle.ring_log.specs.Key.{Key, key≟}
use Rattle.ring_log.specs.Map.{Map, lookup}
use Rattle.ring_log.specs.Log.{Placed, page_of, oldest, pages, U}
use Rattle.ring_log.specs.Ring.{Chip, Ring, next, table}
use Rattle.ring_log.specs.Wear.{age}
use Rattle.ring_log.specs.Opening.{key_at, none_there}
use Rattle.ring_log.specs.Timely.{log_end, Behind, Oldest}
use Rattle.ring_log.proofs.MapLaws.{some_inj, some≢none, lookup_here, lookup_there}
use Rattle.ring_log.proofs.Place.{found_lookup}
use Rattle.ring_log.proofs.Window.{page_block, page_place}
use Rattle.ring_log.proofs.LogLaws.{Stands}
use Rattle.ring_log.proofs.Clean.{run_stands}
use Rattle.ring_log.proofs.Index.{pages_at}
use Rattle.ring_log.proofs.RingLaws.{next_le}
use Rattle.ring_log.proofs.Steps.{table_at_lem}
use Rattle.ring_log.proofs.Append.{table_sorted, place_under}
use Rattle.start.specs.Least.{blocks_after, log_place_of, lesser, least_of}

-- block x is before block t, or not
module _ (t b x : ℕ) where
  pub after_below : x < t → x + b - t ≡ blocks_after t b x
  after_below l = rw (le-leb (suc x) t l)

  pub after_above : t ≤ x → x - t ≡ blocks_after t b x
  after_above l = rw (lt-leb (suc x) t (let z : t < suc x = omega arith in z))

-- the second number is the lesser, or not
module _ (x y : ℕ) where
  pub lesser_second : y < x → y ≡ lesser x y
  lesser_second l = rw (le-leb (suc y) x l)

  pub lesser_first : x ≤ y → x ≡ lesser x y
  lesser_first l = rw (lt-leb (suc y) x (let z : x < suc y = omega arith in z))

  lesser_min : min x y ≡ lesser x y
  lesser_min = go (dec_lt y x)
    where
      go : Dec (y < x) → min x y ≡ lesser x y
      go (yes l) = omega (arith, lesser_second l)
      go (no l) = let z : x ≤ y = omega arith in omega (arith, lesser_first z)

  -- it is at most each, and at least what is at most both
  lesser_le : (lesser x y ≤ x) × (lesser x y ≤ y) × ((q : ℕ) → q ≤ x → q ≤ y → q ≤ lesser x y)
  lesser_le = go (dec_lt y x)
    where
      go : Dec (y < x) → (lesser x y ≤ x) × (lesser x y ≤ y) × ((q : ℕ) → q ≤ x → q ≤ y → q ≤ lesser x y)
      go (yes l) = (omega (arith, lesser_second l), omega (arith, lesser_second l), λ q a b. omega (arith, lesser_second l))
      go (no l) =
          let z : x ≤ y = omega arith in
          (omega (arith, lesser_first z), omega (arith, lesser_first z), λ q a b. omega (arith, lesser_first z))

-- ---- the least log place, entry by entry
module _ (t b end : ℕ) (ix : List ℕ) where
  -- a fold over all entries makes it
  abbrev by_min : ℕ → ℕ → ℕ
  by_min p q = min p (log_place_of t b q)

  least_from : (n : ℕ) → n ≤ length ix → fold by_min end (take n ix) ≡ least_of t b end ix n
  unfolding least_of
  least_from zero l = refl
  least_from (suc n) l =
      ap (λ (k : ℕ). fold by_min end (take k ix)) (sym (add-one n)) ∙ fold_more by_min end ix n 0 (omega arith)
      ∙ ap (λ (p : ℕ). by_min p (get_or ix n 0)) (least_from n (omega arith)) ∙ lesser_min (least_of t b end ix n) (log_place_of t b (get_or ix n 0))

  pub least_fold : fold by_min end ix ≡ least_of t b end ix (length ix)
  least_fold = ap (fold by_min end) (sym (take_all (length ix) ix (omega arith))) ∙ least_from (length ix) (omega arith)

  -- it sees the first n entries alone
  first_alone : (n i : ℕ) → i ≤ n → least_of t b end ix i ≡ least_of t b end (take n ix) i
  unfolding least_of
  first_alone n zero l = refl
  first_alone n (suc i) l =
      ap (λ (x : ℕ). lesser x (log_place_of t b (get_or ix i 0))) (first_alone n i (omega arith))
      ∙ ap (λ (x : ℕ). lesser (least_of t b end (take n ix) i) (log_place_of t b x)) (sym (get_or-take n ix i 0 (omega arith)))

  pub least_take : (n : ℕ) (ps : List ℕ) → take n ix ≡ ps → least_of t b end ix n ≡ least_of t b end ps n
  least_take n ps e = first_alone n n (omega arith) ∙ ap (λ (l : List ℕ). least_of t b end l n) e

  -- it is at most the end and each entry's log place, and at least what is at most all of them
  pub least_le : (n : ℕ) → least_of t b end ix n ≤ end
  unfolding least_of
  least_le zero = omega arith
  least_le (suc n) = omega (arith, least_le n, (lesser_le (least_of t b end ix n) (log_place_of t b (get_or ix n 0))).0)

  pub least_at : (n i : ℕ) → i < n → least_of t b end ix n ≤ log_place_of t b (get_or ix i 0)
  unfolding least_of
  least_at zero i l = absurd (omega arith)
  least_at (suc n) i l = go (ℕ_discrete i n) (λ l. least_at n i l)
    where
      go : Dec (i ≡ n) → (i < n → least_of t b end ix n ≤ log_place_of t b (get_or ix i 0)) → lesser (least_of t b end ix n) (log_place_of t b (get_or ix n 0)) ≤ log_place_of t b (get_or ix i 0)
      go (yes e) ih = rw e (lesser_le (least_of t b end ix n) (log_place_of t b (get_or ix n 0))).1
      go (no e) ih = omega (arith, ih (omega arith), (lesser_le (least_of t b end ix n) (log_place_of t b (get_or ix n 0))).0)

  pub least_most : (q n : ℕ) → q ≤ end → ((i : ℕ) → i < n → q ≤ log_place_of t b (get_or ix i 0)) → q ≤ least_of t b end ix n
  unfolding least_of
  least_most q zero l f = l
  least_most q (suc n) l f =
      (lesser_le (least_of t b end ix n) (log_place_of t b (get_or ix n 0))).2 q (least_most q n l (λ i z. f i (omega arith))) (f n (omega arith))

-- ---- THE LOG PLACE OF A PAGE is that of its place

module _ (B h i : ℕ) (big : 4 ≤ B) (l : h < B) (k : i < B) where
  -- the oldest block
  abbrev t : ℕ
  t = (h + 2) % B

  low : t < B
  low = mod-lt (h + 2) (omega arith)

  same : (h + 2 + i) % B ≡ (t + i) % B
  same = go (dec_lt (h + 2) B)
    where
      go : Dec (h + 2 < B) → (h + 2 + i) % B ≡ (t + i) % B
      go (yes a) = ap (λ (x : ℕ). (x + i) % B) (sym (mod-eq_of_lt a))
      go (no a) =
          let e : t ≡ h + 2 - B =
          ap (λ (x : ℕ). x % B) {x = h + 2} {y = B + (h + 2 - B)} (omega arith) ∙ add-mod_left B (h + 2 - B) ∙ mod-eq_of_lt (let z : h + 2 - B < B = omega arith in z) in
          ap (λ (x : ℕ). x % B) {x = h + 2 + i} {y = B + (h + 2 - B + i)} (omega arith) ∙ add-mod_left B (h + 2 - B + i) ∙ ap (λ (x : ℕ). (x + i) % B) (sym e)

  -- the block i after it is i blocks after it
  way : blocks_after t B ((h + 2 + i) % B) ≡ i
  way = ap (blocks_after t B) same ∙ go (dec_lt (t + i) B)
    where
      go : Dec (t + i < B) → blocks_after t B ((t + i) % B) ≡ i
      go (yes m) = ap (blocks_after t B) (mod-eq_of_lt m) ∙ sym (after_above t B (t + i) (omega arith)) ∙ omega arith
      go (no m) =
          ap (blocks_after t B)
          (ap (λ (x : ℕ). x % B) {x = t + i} {y = B + (t + i - B)} (omega arith) ∙ add-mod_left B (t + i - B) ∙ mod-eq_of_lt (let z : t + i - B < B = omega (arith, low) in z))
          ∙ sym (after_below t B (t + i - B) (omega (arith, low))) ∙ omega (arith, low)

module _ (B : ℕ) (big : 4 ≤ B) (c : Chip) (h : ℕ) (ring : Ring B c h) where
  -- the log place of a row's page, and its age, are the log's end
  row_spot : (k : Key) (a : Placed) → lookup k (table B c) ≡ some a → age (h + B) (next c h) a + log_place_of ((h + 2) % B) B (page_of B a.0) ≡ log_end B (next c h)
  row_spot k a l =
      let s : Stands B c.recs (oldest B (h + B)) (15 * (h + B) + 15 - oldest B (h + B)) k a =
      run_stands B c.recs (h + B) (15 * (h + B) + 15) k a (ap (lookup k) (sym (table_at_lem B big c h ring)) ∙ l) in
      let i : ℕ = a.0 / 15 - (h + 2) in
      let x : blocks_after ((h + 2) % B) B (page_of B a.0 / 16) ≡ i =
      ap (blocks_after ((h + 2) % B) B) (page_block B a.0 ∙ ap (λ (y : ℕ). y % B) {x = a.0 / 15} {y = h + 2 + i} (omega (arith, s.from)))
      ∙ way B h i big ring.inside (omega (arith, s.below)) in
      spot a.0 (blocks_after ((h + 2) % B) B (page_of B a.0 / 16)) (page_of B a.0 % 16) x (page_place B a.0) s.from (place_under B big c c h ring k a l)
    where
      spot : (z x y : ℕ) → x ≡ z / 15 - (h + 2) → y ≡ z % 15 → oldest B (h + B) ≤ z → z < 15 * (h + B) + next c h
          → U * (h + B - z / 15) + next c h - z % 15 + (U * x + y) ≡ log_end B (next c h)
      spot z x y e f g i = omega (arith, next_le c h 15)

  -- A ROW AND ITS ENTRY
  row_entry : (m : Map Placed) (k : Key) (a : Placed) → lookup k m ≡ some a → (i : ℕ) × (i < length m) × (get_or (pages B m) i 0 ≡ page_of B a.0)
  unfolding lookup
  row_entry [] k a l = absurd (some≢none (sym l))
  row_entry (p ∷ m) k a l = go (key≟ k p.0) (row_entry m k a)
    where
      go : Dec (k ≡ p.0) → (lookup k m ≡ some a → (i : ℕ) × (i < length m) × (get_or (pages B m) i 0 ≡ page_of B a.0))
          → (i : ℕ) × (i < length (p ∷ m)) × (get_or (pages B (p ∷ m)) i 0 ≡ page_of B a.0)
      go (yes e) ih = (0, omega arith, ap (λ (b : Placed). page_of B b.0) (some_inj (sym (lookup_here k p m e) ∙ l)))
      go (no e) ih =
          let x = ih (sym (lookup_there k p m e) ∙ l) in
          (suc x.0, omega (arith, x.1), x.2)

  entry_spot : (i : ℕ) → i < length (table B c) → (k : Key) × (a : Placed) × (lookup k (table B c) ≡ some a) × (get_or (pages B (table B c)) i 0 ≡ page_of B a.0)
  entry_spot i l = (
    key_at none_there (table B c) i,
    (get_or (table B c) i none_there).1,
    found_lookup none_there (key_at none_there (table B c) i) (table B c) i (table_sorted B big c h ring) l refl,
    pages_at B none_there (table B c) i l,
  )

  abbrev oldest_block : ℕ
  oldest_block = (h + 2) % B

  abbrev end : ℕ
  end = log_end B (next c h)

  abbrev ix : List ℕ
  ix = pages B (table B c)

  -- THE LEAST OF THEM IS WHERE THE CURSOR BEGINS
  pub least_oldest : (p : ℕ) → p ≡ least_of ((h + 2) % B) B (log_end B (next c h)) (pages B (table B c)) (length (table B c)) → Oldest B c h p
  least_oldest p e =
      record {
        behind = record { inside = omega (arith, e, least_le oldest_block B end ix (length (table B c))); none_before = before };
        most = λ q b. subst (λ (x : ℕ). q ≤ x) (sym e) (least_most oldest_block B end ix q (length (table B c)) b.inside (later q b));
      }
    where
      before : (k : Key) (a : Placed) → lookup k (table B c) ≡ some a → age (h + B) (next c h) a + p ≤ log_end B (next c h)
      before k a l =
          let x = row_entry (table B c) k a l in
          fit (age (h + B) (next c h) a) (log_place_of oldest_block B (page_of B a.0)) (row_spot k a l)
          (omega (arith, e, least_at oldest_block B end ix (length (table B c)) x.0 x.1, ap (log_place_of oldest_block B) x.2))
        where
          fit : (x y : ℕ) → x + y ≡ log_end B (next c h) → p ≤ y → x + p ≤ log_end B (next c h)
          fit x y f g = omega arith

      later : (q : ℕ) → Behind B c h q → (i : ℕ) → i < length (table B c) → q ≤ log_place_of oldest_block B (get_or ix i 0)
      later q b i l =
          let x = entry_spot i l in
          subst (λ (y : ℕ). q ≤ log_place_of oldest_block B y) (sym x.3)
          (fit (age (h + B) (next c h) x.1) (log_place_of oldest_block B (page_of B x.1.0)) (row_spot x.0 x.1 x.2) (b.none_before x.0 x.1 x.2))
        where
          fit : (x y : ℕ) → x + y ≡ log_end B (next c h) → x + q ≤ log_end B (next c h) → q ≤ y
          fit x y f g = omega arith
