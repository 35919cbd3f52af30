-- The index as an array of page numbers, and the rows of the log: what a search finds and what is put in or taken out is what `alter` does. Assumes nothing.
use mathlib.Core.Path.{◌≡◌, refl, sym, ap, ◌∙◌, subst}
use mathlib.Core.List.{List, [], ◌∷◌}
use mathlib.Core.Option.{none, some}
use Prim.Native.Nat.{ℕ, zero, suc, ◌+◌, ◌-◌, ◌*◌, ◌≤◌, ◌<◌}
use native.Mathlib.Omega.{arith}
use lib.ListN.{length, get_or, take-append-drop}
use lib.Seq.{ext_get_or}
use Rattle.record.specs.Record.{rec_at, key_at}
use Rattle.record.proofs.Reading.{says_key}
use Rattle.ring_log.specs.Key.{Key, ◌≺◌}
use Rattle.ring_log.specs.Map.{Map, alter, keys}
use Rattle.ring_log.specs.Log.{Placed, page_of, oldest, run, bytes, pages}
use Rattle.ring_log.specs.Ring.{chip_of, head, table_at, table, map_of}
use Rattle.ring_log.specs.Opening.{key_at as key_of_row, none_there}
use Rattle.ring_log.proofs.Window.{page_lt}
use Rattle.ring_log.proofs.MapMore.{sorted_at}
use Rattle.ring_log.proofs.LogLaws.{Stands}
use Rattle.ring_log.proofs.Clean.{run_sorted}
use Rattle.ring_log.proofs.Place.{absent_alter}
use Rattle.ring_log.proofs.Index.{pages_length, pages_at, pages_insert, pages_replace, pages_remove, index_stands}
use Rattle.index.specs.Index.{keys_of, Ordered}
use Rattle.index.specs.Answers.{FindsBy, Finds, put_at, take_out}
use Rattle.std.specs.Prelude.{Result, Ok, Err}
use Rattle.index.proofs.Search.{nth_key, length_keys}

keys_length : {A : Type 0} (m : Map A) → length (keys m) ≡ length m
unfolding keys
keys_length [] = refl
keys_length (p ∷ m) = ap suc (keys_length m)

keys_at : (m : Map Placed) (i : ℕ) → get_or (keys m) i [] ≡ key_of_row none_there m i
unfolding keys
keys_at [] i = refl
keys_at (p ∷ m) zero = refl
keys_at (p ∷ m) (suc i) = keys_at m i

keys_bytes : (m : Map Placed) → keys (bytes m) ≡ keys m
unfolding keys
keys_bytes [] = refl
keys_bytes (p ∷ m) = ap (λ (l : List Key). p.0 ∷ l) (keys_bytes m)

module _ (B : ℕ) (big : 4 ≤ B) (c : List ℕ) (size : length c ≡ 4096 * B) (e s : ℕ) where
  -- the rows of the places before s
  abbrev pub rows : Map Placed
  rows = run B (rec_at c) e s

  -- ---- ENTRY i OF THE INDEX
  module _ (i : ℕ) (h : i < length rows) where
    pub stands : Stands B (rec_at c) (oldest B e) (s - oldest B e) (key_of_row none_there rows i) (get_or rows i none_there).1
    stands = index_stands B (rec_at c) e s none_there i h

    -- it is a page of the chip
    pub entry_inside : 256 * get_or (pages B rows) i 0 + 256 ≤ length c
    entry_inside = let l : 0 < B = omega arith in omega (arith, pages_at B none_there rows i h, page_lt B (get_or rows i none_there).1.0 l, size)

    -- and the key there is that of row i
    pub entry_key : key_at c (get_or (pages B rows) i 0) ≡ key_of_row none_there rows i
    entry_key = ap (key_at c) (pages_at B none_there rows i h) ∙ says_key c (page_of B (get_or rows i none_there).1.0) stands.rec stands.there ∙ stands.key

  pub length_pages : length (pages B rows) ≡ length rows
  length_pages = pages_length B rows

  -- THE ENTRIES ARE PAGES OF THE CHIP IN THE ORDER OF THEIR KEYS
  pub rows_ordered : Ordered c (pages B rows)
  rows_ordered =
      record {
        inside = λ i h. entry_inside i (omega (arith, length_pages));
        rising = λ i j l h.
            subst (λ (k : Key). k ≺ key_at c (get_or (pages B rows) j 0)) (sym (entry_key i (omega (arith, length_pages))))
            (subst (λ (k : Key). key_of_row none_there rows i ≺ k) (sym (entry_key j (omega (arith, length_pages)))) (sorted_at rows i j none_there (run_sorted B (rec_at c) e s) l (omega (arith, length_pages))));
      }

  -- ---- A SEARCH FOR k
  module _ (k : Key) where
    -- key i of the index is that of row i
    pub nth : (i : ℕ) → i < length rows → get_or (keys_of c (pages B rows)) i [] ≡ key_of_row none_there rows i
    nth i h = nth_key c (pages B rows) i (omega (arith, length_pages)) ∙ entry_key i h

    pub length_rows : length (keys_of c (pages B rows)) ≡ length rows
    length_rows = length_keys c (pages B rows) ∙ length_pages

    pub before : (i : ℕ) → i ≤ length rows → ((j : ℕ) → j < i → get_or (keys_of c (pages B rows)) j [] ≺ k) → (j : ℕ) → j < i → key_of_row none_there rows j ≺ k
    before i h f j l = subst (λ (x : Key). x ≺ k) (nth j (omega arith)) (f j l)

    pub behind : (i : ℕ) → ((j : ℕ) → i ≤ j → j < length (keys_of c (pages B rows)) → k ≺ get_or (keys_of c (pages B rows)) j []) → (j : ℕ) → i ≤ j → j < length rows → k ≺ key_of_row none_there rows j
    behind i f j l h = subst (λ (x : Key). k ≺ x) (nth j h) (f j l (omega (arith, length_rows)))

    -- a page put in where it ended is the row of k
    pub put_row : (f : Result ℕ ℕ) → Finds (keys_of c (pages B rows)) k f → (a : Placed) → put_at f (page_of B a.0) (pages B rows) ≡ pages B (alter k (some a) rows)
    put_row f x a = go f x.says
      where
        go : (f : Result ℕ ℕ) → FindsBy (keys_of c (pages B rows)) k f → put_at f (page_of B a.0) (pages B rows) ≡ pages B (alter k (some a) rows)
        go (Ok i) x = let h : i < length rows = omega (arith, x.0, length_rows) in
            sym (pages_replace B none_there k rows i a (run_sorted B (rec_at c) e s) h (x.1 ∙ nth i h))
        go (Err i) x = let h : i ≤ length rows = omega (arith, x.0, length_rows) in
            sym (pages_insert B none_there k rows i a h (before i h x.1) (behind i x.2))

    -- one taken out is its row gone
    pub take_row : (f : Result ℕ ℕ) → Finds (keys_of c (pages B rows)) k f → take_out f (pages B rows) ≡ pages B (alter k none rows)
    take_row f x = go f x.says
      where
        go : (f : Result ℕ ℕ) → FindsBy (keys_of c (pages B rows)) k f → take_out f (pages B rows) ≡ pages B (alter k none rows)
        go (Ok i) x = let h : i < length rows = omega (arith, x.0, length_rows) in
            sym (pages_remove B none_there k rows i (run_sorted B (rec_at c) e s) h (x.1 ∙ nth i h))
        go (Err i) x = let h : i ≤ length rows = omega (arith, x.0, length_rows) in
            sym (ap (pages B) (absent_alter none_there k rows i h (before i h x.1) (behind i x.2) none ∙ take-append-drop i rows))

  -- THE KEYS OF THE ENTRIES are those of the rows
  rows_keys : keys_of c (pages B rows) ≡ keys rows
  rows_keys =
      ext_get_or [] (keys_of c (pages B rows)) (keys rows) (length_rows [] ∙ sym (keys_length rows)) (λ i h. nth [] i (omega (arith, length_rows [])) ∙ sym (keys_at rows i))

-- of a chip: those of its map, so that they stay while the map does
pub table_keys : (B : ℕ) → 4 ≤ B → (c : List ℕ) → length c ≡ 4096 * B → keys_of c (pages B (table B (chip_of c))) ≡ keys (map_of B (chip_of c))
unfolding table table_at map_of
table_keys B big c size =
    rows_keys B big c size (head B (chip_of c) + B) (15 * (head B (chip_of c) + B) + 15) ∙ sym (keys_bytes (table B (chip_of c)))

-- a search in the index of a chip, and what is put in or taken out
module _ (B : ℕ) (big : 4 ≤ B) (c : List ℕ) (size : length c ≡ 4096 * B) where
  pub table_ordered : Ordered c (pages B (table B (chip_of c)))
  unfolding table table_at
  table_ordered = rows_ordered B big c size (head B (chip_of c) + B) (15 * (head B (chip_of c) + B) + 15)

  module _ (k : Key) (f : Result ℕ ℕ) (x : Finds (keys_of c (pages B (table B (chip_of c)))) k f) where
    pub table_put : (a : Placed) → put_at f (page_of B a.0) (pages B (table B (chip_of c))) ≡ pages B (alter k (some a) (table B (chip_of c)))
    unfolding table table_at
    table_put a = put_row B big c size (head B (chip_of c) + B) (15 * (head B (chip_of c) + B) + 15) k f x a

    pub table_take : take_out f (pages B (table B (chip_of c))) ≡ pages B (alter k none (table B (chip_of c)))
    unfolding table table_at
    table_take = take_row B big c size (head B (chip_of c) + B) (15 * (head B (chip_of c) + B) + 15) k f x
