-- Start: what it leaves in the area, and the answer of document 01. Assumes nothing.
use mathlib.Core.Path.{◌≡◌, refl, sym, ap, ◌∙◌, subst}
use mathlib.Core.List.{List}
use mathlib.Core.Bool.{Bool, true, false, not, ◌&&◌}
use Prim.Native.Nat.{ℕ, ◌+◌, ◌-◌, ◌*◌, ◌%◌, ◌≤◌, ◌<◌}
use native.Mathlib.Omega.{arith}
use lib.Dec.{eqb, leb}
use lib.ListN.{length, take, drop, set, get_or, length-set}
use lib.Seq.{length-take-le, drop-set-lt, get_or-set_same, get_or-set_other}
use borrow.Author.Tests.{eq-eqb, ne_eqb, le-leb, lt-leb}
use borrow.Rule.Slice.PartMut.{put_mid}
use Rattle.ring_log.specs.Map.{Map}
use Rattle.ring_log.specs.Log.{pages, U}
use Rattle.ring_log.specs.Ring.{chip_of, head, Ring, ring_test, table_at, table, next, room}
use Rattle.ring_log.specs.Answers.{refuse, done, start_answer, sizes_test}
use Rattle.ring_log.specs.Answers.{Answer as Says}
use Rattle.ring_log.proofs.RingLaws.{test_ring}
use Rattle.ring_log.proofs.Index.{pages_length}
use Rattle.lent.specs.Area.{blocks_of, Sized, map_in, mark, passed, lent_to_start, Holds}
use Rattle.start.specs.Started.{Starts}
use Rattle.start.specs.Least.{least_of}
use Rattle.start.proofs.Cursor.{least_take, least_oldest}
use Rattle.ring_log.specs.Timely.{log_end, Oldest}
use Rattle.start.specs.Replay.{ReadyFor, ReadiesBy, Readies}
use Rattle.lent.proofs.Area.{downed, downed_1, downed_2, downed_3, downed_4, downed_16, back_long, back_index}
use Rattle.lent.proofs.Numbers.{sizes_hold}
use Rattle.lent.proofs.Held.{map_rows as map-table}
use Rattle.lent.specs.Ended.{Answer, Done, Refused, answer_of}
use Rattle.lent.specs.declared.Refusal.{Refusal}
use Rattle.lent.specs.declared.Refusal.TheVariants.{BadSize}
use Rattle.std.specs.Prelude.{Result, Err}

-- ---- THE AREA AFTER THE LAST STEP: the index was lent, four words were put down, and the mark
abbrev pub noted : List ℕ → List ℕ → ℕ → ℕ → ℕ → ℕ → ℕ → List ℕ
noted w ix k h x n p = set (downed (put_mid 16 k w ix) h x n p) 0 1

module _ (w ix : List ℕ) (k h x n p : ℕ) (l : 16 ≤ length w) where
  abbrev filled : List ℕ
  filled = put_mid 16 k w ix

  word_0 : get_or (noted w ix k h x n p) 0 0 ≡ 1
  word_0 = get_or-set_same (downed filled h x n p) 0 1 0 (simp length-set (omega (arith, back_long w ix k l)))

  word_1 : get_or (noted w ix k h x n p) 1 0 ≡ h
  word_1 = get_or-set_other (downed filled h x n p) 0 1 1 0 (λ e. omega arith) ∙ downed_1 filled h x n p (back_long w ix k l)

  word_2 : get_or (noted w ix k h x n p) 2 0 ≡ x
  word_2 = get_or-set_other (downed filled h x n p) 0 2 1 0 (λ e. omega arith) ∙ downed_2 filled h x n p (back_long w ix k l)

  word_3 : get_or (noted w ix k h x n p) 3 0 ≡ n
  word_3 = get_or-set_other (downed filled h x n p) 0 3 1 0 (λ e. omega arith) ∙ downed_3 filled h x n p (back_long w ix k l)

  word_4 : get_or (noted w ix k h x n p) 4 0 ≡ p
  word_4 = get_or-set_other (downed filled h x n p) 0 4 1 0 (λ e. omega arith) ∙ downed_4 filled h x n p (back_long w ix k l)

  -- the words from 16 on begin with the index
  words_index : n ≤ length ix → take n (drop 16 (noted w ix k h x n p)) ≡ take n ix
  words_index m = ap (take n) (drop-set-lt 16 (downed filled h x n p) 0 1 (omega arith) ∙ downed_16 filled h x n p) ∙ back_index w ix k l n m

-- lent again as far as the entries go, they are it, and the least of them is the least of those
pub least_part : (w ix : List ℕ) → 16 ≤ length w → (n : ℕ) → n ≤ length ix → (t b e p : ℕ)
    → p ≡ least_of t b e (take (16 + n - 16) (drop 16 (put_mid 16 (length w - 16) w ix))) (length (take (16 + n - 16) (drop 16 (put_mid 16 (length w - 16) w ix))))
    → p ≡ least_of t b e (take n ix) n
least_part w ix l n m t b e p q =
    let z : 16 + n - 16 ≡ n = omega arith in
    q ∙ ap (λ (i : List ℕ). least_of t b e i (length i)) (ap (λ (k : ℕ). take k (drop 16 (put_mid 16 (length w - 16) w ix))) z ∙ back_index w ix (length w - 16) l n m)
    ∙ ap (least_of t b e (take n ix)) (length-take-le n ix m)

-- ---- THE LAST STEP OF START
module _ (c : List ℕ) (b h n : ℕ) (ix : List ℕ) (same : b ≡ blocks_of c) (m : n ≤ length ix) (rows : take n ix ≡ pages b (table_at b (chip_of c) h)) where
  rows_here : take n ix ≡ pages (blocks_of c) (table_at (blocks_of c) (chip_of c) h)
  rows_here = rows ∙ ap (λ (B : ℕ). pages B (table_at B (chip_of c) h)) same

  pub rows_count : length (table_at (blocks_of c) (chip_of c) h) ≡ n
  rows_count = sym (pages_length (blocks_of c) (table_at (blocks_of c) (chip_of c) h)) ∙ ap length (sym rows_here) ∙ length-take-le n ix m

  -- the area is ready: the words that were put down are the head, its next place and the number of keys
  pub readies_done : (w w' : List ℕ) (k g x i p : ℕ) → 16 ≤ length w → w' ≡ noted w ix k g x i p → g ≡ h → x ≡ next (chip_of c) h → i ≡ n → n ≤ room b
      → (t e : ℕ) (iy : List ℕ) → t ≡ (h + 2) % b → e ≡ U * (b - 2) + next (chip_of c) h → take n iy ≡ take n ix → p ≡ least_of t b e iy n
      → Readies c h w' (Done 0)
  readies_done w w' k g x i p l q eg ex ei few t e iy et ee same_index least =
      let z : get_or w' 3 0 ≡ i = ap (λ (v : List ℕ). get_or v 3 0) q ∙ word_3 w ix k g x i p l in
      record {
        ends = (
          refl,
          record {
            marked = ap (λ (v : List ℕ). get_or v 0 0) q ∙ word_0 w ix k g x i p l;
            head = ap (λ (v : List ℕ). get_or v 1 0) q ∙ word_1 w ix k g x i p l ∙ eg;
            place = ap (λ (v : List ℕ). get_or v 2 0) q ∙ word_2 w ix k g x i p l ∙ ex;
            few = omega (arith, z, same);
            rows =
                ap (λ (j : ℕ). take j (drop 16 w')) z ∙ ap (λ (v : List ℕ). take i (drop 16 v)) q ∙ words_index w ix k g x i p l (omega arith)
                ∙ ap (λ (j : ℕ). take j ix) ei ∙ rows_here;
            count = rows_count ∙ sym ei ∙ sym z;
            cursor =
                ap (λ (v : List ℕ). get_or v 4 0) q ∙ word_4 w ix k g x i p l ∙ least ∙ least_take t b e iy n _ (same_index ∙ rows_here)
                ∙ rw (et, ee, same) refl ∙ ap (least_of _ _ _ _) (sym ei ∙ sym z);
          },
        );
      }

  -- there are too many keys
  pub readies_full : (w' : List ℕ) → room b < n → mark w' ≡ 0 → Readies c h w' (Refused 8)
  readies_full w' l z = record { ends = (refl, z, omega (arith, rows_count, same)) }

-- ---- START
module _ (c : List ℕ) (f : ℕ) (w w' : List ℕ) where
  -- the answer by the tests
  start_by : (t d g : Bool) → sizes_test (length c) (length w) ≡ t → eqb f 0 ≡ d
      → (ring_test (blocks_of c) (chip_of c) (head (blocks_of c) (chip_of c)) && leb (length (map_in c)) (room (blocks_of c))) ≡ g
      → refuse 5 (not t) (refuse 7 d (refuse 8 (not g) (done (map_in c)))) ≡ start_answer (lent_to_start c f w) (chip_of c)
  start_by t d g p q u =
      ap (λ (x : Bool). refuse 5 (not x) (refuse 7 d (refuse 8 (not g) (done (map_in c))))) (sym p)
      ∙ ap (λ (x : Bool). refuse 5 (not (sizes_test (length c) (length w))) (refuse 7 x (refuse 8 (not g) (done (map_in c))))) (sym q)
      ∙ ap (λ (x : Bool). refuse 5 (not (sizes_test (length c) (length w))) (refuse 7 (eqb f 0) (refuse 8 (not x) (done (map_in c))))) (sym u)

  -- the same area, with 5 or 7
  pub start_5 : (r : Result ℕ Refusal) → r ≡ Err BadSize → sizes_test (length c) (length w) ≡ false → Starts c w w (start_answer (lent_to_start c f w) (chip_of c)) (answer_of r)
  unfolding refuse
  start_5 r e p =
      rw e (subst (λ (s : Says (Map (List ℕ))). Starts c w w s (Refused 5)) (start_by false _ _ p refl refl) (record { size = refl; ends = (refl, λ _. refl, λ e. absurd (omega arith)); cursor = tt }))

  pub start_7 : Sized c w → f ≡ 0 → Starts c w w (start_answer (lent_to_start c f w) (chip_of c)) (Refused 7)
  unfolding refuse
  start_7 s z =
      subst (λ (s : Says (Map (List ℕ))). Starts c w w s (Refused 7)) (start_by true true _ (sizes_hold c w s) (eq-eqb f 0 z) refl)
      (record { size = refl; ends = (refl, λ _. refl, λ e. absurd (omega arith)); cursor = tt })

  module _ (s : Sized c w) (lit : 0 < f) (size : length w' ≡ length w) where
    -- it can't be read
    start_8 : (ring_test (blocks_of c) (chip_of c) (head (blocks_of c) (chip_of c)) && leb (length (map_in c)) (room (blocks_of c))) ≡ false → mark w' ≡ 0
        → Starts c w w' (start_answer (lent_to_start c f w) (chip_of c)) (Refused 8)
    unfolding refuse
    start_8 t z =
        subst (λ (s : Says (Map (List ℕ))). Starts c w w' s (Refused 8)) (start_by true false false (sizes_hold c w s) (ne_eqb f 0 (λ e. omega arith)) t)
        (record { size = size; ends = (refl, λ n. absurd (n refl), λ _. z); cursor = tt })

    start_done : (ring_test (blocks_of c) (chip_of c) (head (blocks_of c) (chip_of c)) && leb (length (map_in c)) (room (blocks_of c))) ≡ true → mark w' ≡ 1 → Holds c w'
        → Oldest (blocks_of c) (chip_of c) (get_or w' 1 0) (passed w') → Starts c w w' (start_answer (lent_to_start c f w) (chip_of c)) (Done 0)
    unfolding refuse
    start_done t m h a =
        subst (λ (s : Says (Map (List ℕ))). Starts c w w' s (Done 0)) (start_by true false true (sizes_hold c w s) (ne_eqb f 0 (λ e. omega arith)) t)
        (record { size = size; ends = (refl, m, h); cursor = a })

    module _ (b h : ℕ) (same : b ≡ blocks_of c) (at : h ≡ head b (chip_of c)) where
      at_head : h ≡ head (blocks_of c) (chip_of c)
      at_head = at ∙ ap (λ (B : ℕ). head B (chip_of c)) same

      test_head : (t : Bool) → ring_test b (chip_of c) h ≡ t → ring_test (blocks_of c) (chip_of c) (head (blocks_of c) (chip_of c)) ≡ t
      test_head t e = ap (λ (B : ℕ). ring_test B (chip_of c) (head B (chip_of c))) (sym same) ∙ ap (ring_test b (chip_of c)) (sym at) ∙ e

      -- no ring
      pub start_unringed : ring_test b (chip_of c) h ≡ false → mark w' ≡ 0 → Starts c w w' (start_answer (lent_to_start c f w) (chip_of c)) (Refused 8)
      start_unringed e m = start_8 (ap (λ (x : Bool). x && leb (length (map_in c)) (room (blocks_of c))) (test_head false e)) m

      -- the keys of the map are those of the table of the head
      map_rows : length (map_in c) ≡ length (table_at (blocks_of c) (chip_of c) h)
      unfolding table
      map_rows = map-table (blocks_of c) (chip_of c) ∙ ap (λ (x : ℕ). length (table_at (blocks_of c) (chip_of c) x)) (sym at_head)

      both_tests : (x y : Bool) → ring_test b (chip_of c) h ≡ x → leb (length (map_in c)) (room (blocks_of c)) ≡ y
          → (ring_test (blocks_of c) (chip_of c) (head (blocks_of c) (chip_of c)) && leb (length (map_in c)) (room (blocks_of c))) ≡ (x && y)
      both_tests x y e q =
          ap (λ (z : Bool). z && leb (length (map_in c)) (room (blocks_of c))) (test_head x e) ∙ ap (λ (z : Bool). x && z) q

      -- an area that is ready for the head of a ring holds
      ready_holds : Ring (blocks_of c) (chip_of c) h → ReadyFor c h w' → Holds c w'
      unfolding table
      ready_holds r y =
          record {
            few = y.few;
            ready =
                record {
                  ring = subst (Ring (blocks_of c) (chip_of c)) (sym y.head) r;
                  here = y.place ∙ ap (next (chip_of c)) (sym y.head);
                  rows = y.rows ∙ ap (λ (x : ℕ). pages (blocks_of c) (table_at (blocks_of c) (chip_of c) x)) at_head;
                  few = omega (arith, y.few, y.count, ap length y.rows, pages_length (blocks_of c) (table_at (blocks_of c) (chip_of c) h));
                };
          }

      -- and its cursor stands at the oldest value
      ready_oldest : Ring (blocks_of c) (chip_of c) h → ReadyFor c h w' → Oldest (blocks_of c) (chip_of c) (get_or w' 1 0) (passed w')
      unfolding table
      ready_oldest r y =
          subst (λ (x : ℕ). Oldest (blocks_of c) (chip_of c) x (passed w')) (sym y.head)
          (least_oldest (blocks_of c) s.some_blocks (chip_of c) h r (passed w')
          (y.cursor
          ∙ ap (λ (x : ℕ). least_of ((h + 2) % blocks_of c) (blocks_of c) (log_end (blocks_of c) (next (chip_of c) h)) (pages (blocks_of c) (table_at (blocks_of c) (chip_of c) h)) x)
          (sym y.count)
          ∙ ap
          (λ (x : ℕ). least_of ((h + 2) % blocks_of c) (blocks_of c) (log_end (blocks_of c) (next (chip_of c) h)) (pages (blocks_of c) (table_at (blocks_of c) (chip_of c) x))
          (length (table_at (blocks_of c) (chip_of c) x))) at_head))

      -- a ring, and the last step
      pub start_ringed : ring_test b (chip_of c) h ≡ true → (r : Answer) → Readies c h w' r → Starts c w w' (start_answer (lent_to_start c f w) (chip_of c)) r
      start_ringed e r y = go r y.ends
        where
          go : (r : Answer) → ReadiesBy c h w' r → Starts c w w' (start_answer (lent_to_start c f w) (chip_of c)) r
          go (Done n) d =
              let g : ring_test (blocks_of c) (chip_of c) h ≡ true = ap (λ (B : ℕ). ring_test B (chip_of c) h) (sym same) ∙ e in
              subst (λ (i : ℕ). Starts c w w' (start_answer (lent_to_start c f w) (chip_of c)) (Done i)) (sym d.0)
              (start_done (both_tests true true e (le-leb (length (map_in c)) (room (blocks_of c)) (omega (arith, map_rows, d.1.few, d.1.count)))) d.1.marked
              (ready_holds (test_ring (blocks_of c) (chip_of c) h g) d.1) (ready_oldest (test_ring (blocks_of c) (chip_of c) h g) d.1))
          go (Refused k) d =
              subst (λ (i : ℕ). Starts c w w' (start_answer (lent_to_start c f w) (chip_of c)) (Refused i)) (sym d.0)
              (start_8 (both_tests true false e (lt-leb (length (map_in c)) (room (blocks_of c)) (omega (arith, map_rows, d.2)))) d.1)
