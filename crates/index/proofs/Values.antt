-- What a search in the index says of the values of the log. Assumes nothing.
use mathlib.Core.Path.{◌≡◌, sym, ap, ◌∙◌}
use mathlib.Core.List.{List}
use mathlib.Core.Option.{none, some}
use Prim.Native.Nat.{ℕ, ◌+◌, ◌-◌, ◌*◌, ◌≤◌, ◌<◌}
use native.Mathlib.Omega.{arith}
use lib.ListN.{length, get_or}
use Rattle.record.specs.Record.{rec_at, value_at}
use Rattle.record.proofs.Reading.{says_value}
use Rattle.ring_log.specs.Key.{Key}
use Rattle.ring_log.specs.Map.{Map, lookup, map_o}
use Rattle.ring_log.specs.Log.{Placed, page_of, oldest, run, bytes, pages}
use Rattle.ring_log.specs.Opening.{key_at as key_of_row, none_there}
use Rattle.ring_log.proofs.MapMore.{lookup_map_v}
use Rattle.ring_log.proofs.LogLaws.{Stands}
use Rattle.ring_log.proofs.Clean.{run_sorted}
use Rattle.ring_log.proofs.Place.{absent_lookup, found_lookup}
use Rattle.ring_log.proofs.Index.{pages_at, index_stands}
use Rattle.index.specs.Index.{keys_of}
use Rattle.index.specs.Answers.{FindsBy}
use Rattle.std.specs.Prelude.{Ok, Err}
use Rattle.index.proofs.Rows.{entry_inside, nth, length_rows, before, behind}

-- ---- THE ROWS OF THE PLACES BEFORE s
module _ (B : ℕ) (big : 4 ≤ B) (c : List ℕ) (size : length c ≡ 4096 * B) (e s : ℕ) where
  abbrev rows : Map Placed
  rows = run B (rec_at c) e s

  -- the value that stands on the page of entry i is that of row i
  entry_value : (i : ℕ) → i < length rows → value_at c (get_or (pages B rows) i 0) ≡ (get_or rows i none_there).1.1
  entry_value i h =
      let t : Stands B (rec_at c) (oldest B e) (s - oldest B e) (key_of_row none_there rows i) (get_or rows i none_there).1 = index_stands B (rec_at c) e s none_there i h in
      ap (value_at c) (pages_at B none_there rows i h) ∙ says_value c (page_of B (get_or rows i none_there).1.0) t.rec t.there (get_or rows i none_there).1.1 t.what

  module _ (k : Key) (i : ℕ) where
    -- k was found at i: its value stands on the page of entry i
    pub found_value : FindsBy (keys_of c (pages B rows)) k (Ok i) → lookup k (bytes rows) ≡ some (value_at c (get_or (pages B rows) i 0))
    found_value x =
        let h : i < length rows = omega (arith, x.0, length_rows B big c size e s k) in
        lookup_map_v (λ (a : Placed). a.1) k rows
        ∙ ap (map_o (λ (a : Placed). a.1)) (found_lookup none_there k rows i (run_sorted B (rec_at c) e s) h (x.1 ∙ nth B big c size e s k i h))
        ∙ ap (λ (v : List ℕ). some v) (sym (entry_value i h))

    -- the entry is a page of the chip
    pub found_inside : FindsBy (keys_of c (pages B rows)) k (Ok i) → 256 * get_or (pages B rows) i 0 + 256 ≤ length c
    found_inside x = entry_inside B big c size e s i (omega (arith, x.0, length_rows B big c size e s k))

    -- k was missed: it has no value
    pub missed_value : FindsBy (keys_of c (pages B rows)) k (Err i) → lookup k (bytes rows) ≡ none
    missed_value x =
        let h : i ≤ length rows = omega (arith, x.0, length_rows B big c size e s k) in
        lookup_map_v (λ (a : Placed). a.1) k rows
        ∙ ap (map_o (λ (a : Placed). a.1))
        (absent_lookup none_there k rows i h (before B big c size e s k i h x.1) (behind B big c size e s k i x.2))
