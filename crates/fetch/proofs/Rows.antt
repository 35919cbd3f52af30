-- What a search in the index says of the map, and how a value is handed out. Assumes nothing.
use mathlib.Core.Path.{◌≡◌, refl, sym, ap, ◌∙◌, subst}
use mathlib.Core.List.{List, ◌++◌}
use mathlib.Core.Option.{Option, none, some}
use mathlib.Core.Bool.{Bool, true, false}
use Prim.Native.Nat.{ℕ, suc, ◌+◌, ◌*◌, ◌/◌, ◌≤◌, ◌<◌}
use native.Mathlib.Omega.{arith}
use lib.Dec.{leb}
use lib.ListN.{length, drop, get_or}
use borrow.Author.Tests.{le-leb, lt-leb}
use Rattle.chip.specs.Chip.{page_at}
use Rattle.record.specs.Record.{value_length, value_at}
use Rattle.record.proofs.Fields.{value_long}
use Rattle.ring_log.specs.Key.{Key}
use Rattle.ring_log.specs.Map.{lookup}
use Rattle.ring_log.specs.Log.{pages}
use Rattle.ring_log.specs.Ring.{chip_of, head, table_at, table, map_of}
use Rattle.ring_log.specs.Answers.{refuse, done, gotten}
use Rattle.ring_log.specs.Answers.{Answer as Says}
use Rattle.index.specs.Index.{keys_of, Ordered}
use Rattle.index.specs.Answers.{FindsBy, Finds}
use Rattle.std.specs.Prelude.{Ok, Err}
use Rattle.index.proofs.Values.{found_value, found_inside, missed_value}
use Rattle.index.proofs.Rows.{table_ordered}
use Rattle.lent.specs.Area.{blocks_of, map_in}
use Rattle.fetch.specs.Fetched.{Gets, Fetches}
use Rattle.lent.specs.Ended.{Answer, Done, Refused}

-- ---- THE INDEX OF A CHIP
module _ (c ps : List ℕ) (big : 4 ≤ blocks_of c) (size : length c ≡ 4096 * blocks_of c) (same : ps ≡ pages (blocks_of c) (table (blocks_of c) (chip_of c))) where
  pub index_ordered : Ordered c ps
  index_ordered = subst (Ordered c) (sym same) (table_ordered (blocks_of c) big c size)

  module _ (k : Key) (i : ℕ) where
    pub index_value : Finds (keys_of c ps) k (Ok i) → lookup k (map_in c) ≡ some (value_at c (get_or ps i 0))
    unfolding table table_at map_of
    index_value x =
        found_value (blocks_of c) big c size (head (blocks_of c) (chip_of c) + blocks_of c) (15 * (head (blocks_of c) (chip_of c) + blocks_of c) + 15) k i
        (subst (λ (l : List ℕ). FindsBy (keys_of c l) k (Ok i)) same x.says)
        ∙ ap (λ (l : List ℕ). some (value_at c (get_or l i 0))) (sym same)

    pub index_inside : Finds (keys_of c ps) k (Ok i) → 256 * get_or ps i 0 + 256 ≤ length c
    unfolding table table_at
    index_inside x =
        subst (λ (l : List ℕ). 256 * get_or l i 0 + 256 ≤ length c) (sym same)
        (found_inside (blocks_of c) big c size (head (blocks_of c) (chip_of c) + blocks_of c) (15 * (head (blocks_of c) (chip_of c) + blocks_of c) + 15) k i
        (subst (λ (l : List ℕ). FindsBy (keys_of c l) k (Ok i)) same x.says))

    pub index_missed : Finds (keys_of c ps) k (Err i) → lookup k (map_in c) ≡ none
    unfolding table table_at map_of
    index_missed x =
        missed_value (blocks_of c) big c size (head (blocks_of c) (chip_of c) + blocks_of c) (15 * (head (blocks_of c) (chip_of c) + blocks_of c) + 15) k i
        (subst (λ (l : List ℕ). FindsBy (keys_of c l) k (Err i)) same x.says)

-- ---- A VALUE IS HANDED OUT
module _ (v b : List ℕ) where
  got_by : (t : Bool) → leb (suc (length b)) (length v) ≡ t → refuse 6 t (done (length v, v ++ drop (length v) b)) ≡ gotten b (some v)
  got_by t e = ap (λ (x : Bool). refuse 6 x (done (length v, v ++ drop (length v) b))) (sym e)

  -- the buffer is too short
  pub gets_short : length b < length v → Gets b b (gotten b (some v)) (Refused 6)
  unfolding refuse
  gets_short l = subst (λ (s : Says (ℕ × List ℕ)). Gets b b s (Refused 6)) (got_by true (le-leb (suc (length b)) (length v) l)) (record { ends = (refl, refl) })

  -- it is not
  pub gets_all : (b' : List ℕ) → length v ≤ length b → b' ≡ v ++ drop (length v) b → Gets b b' (gotten b (some v)) (Done (length v))
  unfolding refuse
  gets_all b' l e =
      subst (λ (s : Says (ℕ × List ℕ)). Gets b b' s (Done (length v))) (got_by false (lt-leb (suc (length b)) (length v) (omega arith))) (record { ends = (refl, e) })

-- the value on page p, whose length is n
module _ (c b : List ℕ) (p n : ℕ) (h : 256 * p + 256 ≤ length c) (e : n ≡ value_length (page_at c p)) where
  long : length (value_at c p) ≡ n
  long = value_long c p h ∙ sym e

  pub value_short : length b < n → Gets b b (gotten b (some (value_at c p))) (Refused 6)
  value_short l = gets_short (value_at c p) b (omega (arith, long))

  pub value_all : (v : List ℕ) → n ≤ length b → v ≡ value_at c p → Gets b (v ++ drop n b) (gotten b (some (value_at c p))) (Done n)
  value_all v l d =
      subst (λ (k : ℕ). Gets b (v ++ drop k b) (gotten b (some (value_at c p))) (Done k)) long
      (gets_all (value_at c p) b _ (omega (arith, long)) (ap (λ (x : List ℕ). x ++ drop (length (value_at c p)) b) d))

-- ---- A VALUE IS FETCHED, by what the search found
module _ (c ps : List ℕ) (k : Key) (i : ℕ) where
  pub fetches_missing : (Ordered c ps → Finds (keys_of c ps) k (Err i)) → (b : List ℕ) → Fetches c ps (lookup k (map_in c)) b b (Refused 4)
  fetches_missing finds b =
      record {
        right = λ big size same.
            subst (λ (o : Option (List ℕ)). Gets b b (gotten b o) (Refused 4))
            (sym (index_missed c ps big size same k i (finds (index_ordered c ps big size same)))) (record { ends = (refl, refl) });
      }

  module _ (finds : Ordered c ps → Finds (keys_of c ps) k (Ok i)) (b b' : List ℕ) (r : Answer) where
    -- an entry of the chip's table is a page of the chip
    pub fetches_never : length c / 256 ≤ get_or ps i 0 → Fetches c ps (lookup k (map_in c)) b b' r
    fetches_never l = record { right = λ big size same. absurd (omega (arith, index_inside c ps big size same k i (finds (index_ordered c ps big size same)))) }

    pub fetches_value : Gets b b' (gotten b (some (value_at c (get_or ps i 0)))) r → Fetches c ps (lookup k (map_in c)) b b' r
    fetches_value g =
        record {
          right = λ big size same.
              subst (λ (o : Option (List ℕ)). Gets b b' (gotten b o) r) (sym (index_value c ps big size same k i (finds (index_ordered c ps big size same)))) g;
        }
