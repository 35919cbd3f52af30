-- Put and delete: from the change to what the call leaves, and the answer of document 01. Assumes nothing.
use mathlib.Core.Path.{◌≡◌, refl, sym, ap, ◌∙◌, subst}
use mathlib.Core.Logic.{inl, inr}
use mathlib.Core.List.{List, []}
use mathlib.Core.Option.{none, some}
use mathlib.Core.Bool.{Bool, true, false, not, ◌&&◌}
use Prim.Native.Nat.{ℕ, ◌+◌, ◌-◌, ◌*◌, ◌/◌, ◌≤◌, ◌<◌}
use native.Mathlib.Omega.{arith}
use lib.Dec.{leb}
use lib.ListN.{length, take, drop, get_or, length-drop}
use lib.Seq.{take_all}
use Rattle.std.specs.Prelude.{Result, Ok, Err, IsErrAnd}
use borrow.Rule.Slice.PartMut.{mid_of, put_mid}
use Rattle.chip.specs.Play.{Op, erases, writes, Did}
use Rattle.chip.proofs.Plays.{did_none, did_more, did_length}
use Rattle.record.specs.Record.{most_value, Rec, record_of}
use Rattle.ring_log.specs.Map.{Map, lookup, alter}
use Rattle.ring_log.specs.Ring.{chip_of, head, Ring, map_of, room, Ready}
use Rattle.ring_log.specs.Call.{resting, begin, Trace, After}
use Rattle.ring_log.specs.Timely.{Timely}
use Rattle.ring_log.proofs.Timely.{timely_more}
use Rattle.ring_log.proofs.TimelyCall.{call_timely}
use Rattle.ring_log.specs.Answers.{missing, printed, refuse, lent, keyed, refused, done, put_answer, delete_answer}
use Rattle.ring_log.specs.Answers.{Answer as Says}
use Rattle.ring_log.proofs.RingLaws.{ring_head}
use Rattle.ring_log.proofs.CallLaws.{call_map}
use Rattle.ring_log.proofs.CallCost.{Rest, call_short}
use Rattle.lent.specs.Area.{blocks_of, Checked, map_in, mark, lent_of, Kept, Store}
use Rattle.lent.specs.Tested.{lent_number, key_number, due, Tested}
use Rattle.append.specs.Steps.{ChangeWithin, ChangeKept, denial_in, Alters}
use Rattle.change.specs.Steps.{put_number, Settles, Runs}
use Rattle.change.specs.Changed.{Came, Changes, Ended, PutEnds, DeleteEnds}
use Rattle.lent.specs.Ended.{Answer, Done, Refused, answer_of, refusal_number}
use Rattle.lent.specs.declared.Refusal.{Refusal}
use Rattle.append.specs.declared.Made.{Made}
use Rattle.append.specs.declared.Unmade.{Unmade}
use Rattle.append.specs.declared.Unmade.TheVariants.{Denied, Halted}
use Rattle.chip.specs.declared.Halt.TheVariants.{Dark, Dirty}
use Rattle.lent.proofs.Area.{marked, lent_same, lent_before, downed, downed_0, downed_1, downed_2, downed_3, downed_4, downed_16, back_long, back_index}
use Rattle.lent.proofs.Numbers.{refusal_some, lent_due, keyed_only, refuse_due, due_refused}
use Rattle.change.proofs.Numbers.{keyed_due}
use Rattle.lent.proofs.Held.{map_rows}
use Rattle.append.proofs.Appends.{map_sorted, ready_count, alter_fits}

-- ---- WHAT CAME OF IT
module _ (c : List ℕ) (big : 4 ≤ blocks_of c) (note : Bool) (key value noise : List ℕ) (f : ℕ) (c' : List ℕ) (f' : ℕ) where
  abbrev x : Rec
  x = record_of note key value

  abbrev B : ℕ
  B = blocks_of c

  abbrev m : Map (List ℕ)
  m = map_in c

  same_blocks : length c' ≡ length c → blocks_of c ≡ blocks_of c'
  same_blocks e = ap (λ (n : ℕ). n / 4096) (sym e)

  -- start will succeed on it
  a_store : length c' ≡ length c → ((h : ℕ) × Ring B (chip_of c') h) → length (map_of B (chip_of c')) ≤ room B → Store c'
  a_store e r few =
      record {
        ring = subst (λ (b : ℕ). (h : ℕ) × Ring b (chip_of c') h) (same_blocks e) r;
        few = subst (λ (b : ℕ). length (map_of b (chip_of c')) ≤ room b) (same_blocks e) few;
      }

  module _ (h y : ℕ) (ps : List ℕ) (r : Ready B (chip_of c) h y ps) (none_due : denial_in note key m B ≡ 0) {u v : ℕ} (d : Did u v noise c f c' f') where
    rest : Rest B (chip_of c) h
    rest = record { ring = r.ring; few = omega (arith, r.few, ready_count B (chip_of c) h y ps r, map_rows B (chip_of c)) }

    after : Map (List ℕ)
    after = alter key x.what m

    few_before : length m ≤ room B
    few_before = omega (arith, r.few, ready_count B (chip_of c) h y ps r)

    few_after : length (alter key x.what m) ≤ room B
    few_after = alter_fits B note key value m (map_sorted B big (chip_of c) h r.ring) few_before none_due

    -- the bounds of a ready store
    short : (b : Bool) (p q : ℕ) → Trace B x (begin p) (resting (chip_of c) h) (chip_of c') q d.ops b → (writes d.ops ≤ room B + B) × (erases d.ops ≤ room B / 15 + 1)
    short b p q t =
        let s = call_short B big x (begin p) (chip_of c) (chip_of c') h q d.ops b t rest in
        (s.0, omega (arith, s.1))

    -- and where the cursor is in time
    in_time : (b : Bool) (p s : ℕ) → Trace B x (begin p) (resting (chip_of c) h) (chip_of c') s d.ops b → length (map_of B (chip_of c')) ≤ room B
        → (q : ℕ) → q ≤ 5 → Timely B (chip_of c) (head B (chip_of c)) p (8 * (1 + q)) → (erases d.ops ≤ 1) × (writes d.ops ≤ 10 + q)
    in_time b p s t fits q five y =
        let z : Timely B (chip_of c) h p (8 * (1 + q)) = subst (λ (k : ℕ). Timely B (chip_of c) k p (8 * (1 + q))) (ring_head B big (chip_of c) h r.ring) y in
        (call_timely B big x (Unit {0}) q (λ _. five) (chip_of c) (chip_of c') h p s d.ops b t rest (omega (arith, fits, map_rows B (chip_of c'))) z.behind
        (λ _. timely_more B big (chip_of c) h p (8 * (1 + q)) (8 * q + 8) (omega arith) z)).1 tt

    at_head : (b : Bool) (p q : ℕ) (l : List Op) → Trace B x (begin p) (resting (chip_of c) h) (chip_of c') q l b
        → Trace B x (begin p) (resting (chip_of c) (head B (chip_of c))) (chip_of c') q l b
    at_head b p q l t = subst (λ (k : ℕ). Trace B x (begin p) (resting (chip_of c) k) (chip_of c') q l b) (sym (ring_head B big (chip_of c) h r.ring)) t

    key_is : (b : Bool) → (record_of b key value).key ≡ key
    key_is true = refl
    key_is false = refl

    same_after : alter x.key x.what m ≡ alter key x.what m
    same_after = ap (λ (k : List ℕ). alter k x.what m) (key_is note)

    -- it came to its end
    pub came_whole : (p s : ℕ) → Trace B x (begin p) (resting (chip_of c) h) (chip_of c') s d.ops true → Came true x p s c c' d.ops (alter key x.what m)
    came_whole p s t =
        let q = call_map B big x (begin p) (chip_of c) (chip_of c') h s d.ops true r.ring t in
        let e : map_of B (chip_of c') ≡ alter key x.what m = q.1 ∙ same_after in
        record {
          few_erases = (short true p s t).1;
          few_writes = (short true p s t).0;
          short = in_time true p s t (omega (arith, few_after, ap length e));
          trace = at_head true p s d.ops t;
          map = subst (λ (b : ℕ). map_of b (chip_of c') ≡ alter key x.what m) (same_blocks (did_length d)) e;
          store = a_store (did_length d) q.0 (omega (arith, few_after, ap length e));
        }

    -- the power went under it
    pub came_cut : (p s : ℕ) → Trace B x (begin p) (resting (chip_of c) h) (chip_of c') s d.ops false → Came false x p s c c' d.ops (alter key x.what m)
    came_cut p s t =
        let q = call_map B big x (begin p) (chip_of c) (chip_of c') h s d.ops false r.ring t in
        record {
          few_erases = (short false p s t).1;
          few_writes = (short false p s t).0;
          short = in_time false p s t (few_which (which q.1));
          trace = at_head false p s d.ops t;
          map = subst (λ (b : ℕ). After false m (alter key x.what m) (map_of b (chip_of c'))) (same_blocks (did_length d)) (which q.1);
          store = a_store (did_length d) q.0 (few_which (which q.1));
        }
      where
        which : After false m (alter x.key x.what m) (map_of B (chip_of c')) → After false m (alter key x.what m) (map_of B (chip_of c'))
        which (inl e) = inl e
        which (inr e) = inr (e ∙ same_after)

        few_which : After false m (alter key x.what m) (map_of B (chip_of c')) → length (map_of B (chip_of c')) ≤ room B
        few_which (inl e) = omega (arith, few_before, ap length e)
        few_which (inr e) = omega (arith, few_after, ap length e)

-- ---- THE BODY
module _ (c w : List ℕ) (ok : Checked c w) (note : Bool) (key value noise : List ℕ) (f : ℕ) (k : ℕ) (whole : length w ≤ 16 + k) where
  long : 16 ≤ length w
  long = omega (arith, ok.sized.long)

  lent_index : mid_of 16 k w ≡ drop 16 w
  lent_index = take_all k (drop 16 w) (omega (arith, length-drop 16 w))

  -- memory is ready, by the words of the area
  ready_of : Kept c f w → 0 < f → mark w ≡ 1 → Ready (blocks_of c) (chip_of c) (get_or w 1 0) (get_or w 2 0) (take (get_or w 3 0) (mid_of 16 k w))
  ready_of kept lit on =
      subst (λ (l : List ℕ). Ready (blocks_of c) (chip_of c) (get_or w 1 0) (get_or w 2 0) (take (get_or w 3 0) l)) (sym lent_index) (kept.holds ok.sized lit on).ready

  abbrev answer : Says (Map (List ℕ))
  answer = due (denial_in note key (map_in c) (blocks_of c)) (done (alter key (record_of note key value).what (map_in c)))

  answer_done : denial_in note key (map_in c) (blocks_of c) ≡ 0 → done (alter key (record_of note key value).what (map_in c)) ≡ answer
  answer_done z = ap (λ (i : ℕ). due i (done (alter key (record_of note key value).what (map_in c)))) (sym z)

  module _ (c' ix' : List ℕ) (f' : ℕ) where
    wider : Did (blocks_of c - 2) (16 * (blocks_of c - 2) + 17) noise c f c' f' → Did (blocks_of c - 2) (16 * blocks_of c - 15) noise c f c' f'
    wider d = did_more (omega arith) (omega (arith, ok.sized.some_blocks)) d

    -- made: the words are put down
    run_made : (m : Made) → Alters (blocks_of c) (get_or w 1 0) (get_or w 2 0) (get_or w 4 0) (get_or w 3 0) note key value noise c f (mid_of 16 k w) c' f' ix' (Ok m)
        → m.keys ≤ length ix' → (w' : List ℕ) → w' ≡ downed (put_mid 16 k w ix') m.head.block m.next m.keys m.passed → Runs note key value noise c f w c' f' w' (Done 0)
    unfolding wider did_more
    run_made m a l w' q =
        record {
          did = wider a.did;
          refused = tt;
          right = λ kept lit on.
              let r = a.right lit (ready_of kept lit on) in
              let came = came_whole c ok.sized.some_blocks note key value noise f c' f' (get_or w 1 0) (get_or w 2 0) _ (ready_of kept lit on) r.3 a.did (get_or w 4 0) m.passed r.4 in
              let b : blocks_of c ≡ blocks_of c' = same_blocks c ok.sized.some_blocks note key value noise f c' f' (did_length a.did) in
              let v : List ℕ = put_mid 16 k w ix' in
              let one : get_or w' 1 0 ≡ m.head.block = ap (λ (l : List ℕ). get_or l 1 0) q ∙ downed_1 v m.head.block m.next m.keys m.passed (back_long w ix' k long) in
              let two : get_or w' 2 0 ≡ m.next = ap (λ (l : List ℕ). get_or l 2 0) q ∙ downed_2 v m.head.block m.next m.keys m.passed (back_long w ix' k long) in
              let three : get_or w' 3 0 ≡ m.keys = ap (λ (l : List ℕ). get_or l 3 0) q ∙ downed_3 v m.head.block m.next m.keys m.passed (back_long w ix' k long) in
              let rows : take (get_or w' 3 0) (drop 16 w') ≡ take m.keys ix' =
              ap (λ (i : ℕ). take i (drop 16 w')) three ∙ ap (λ (l : List ℕ). take m.keys (drop 16 l)) q ∙ ap (take m.keys) (downed_16 v m.head.block m.next m.keys m.passed) ∙ back_index w ix' k long m.keys l in
              let ready : Ready (blocks_of c) (chip_of c') (get_or w' 1 0) (get_or w' 2 0) (take (get_or w' 3 0) (drop 16 w')) =
              subst (λ (i : ℕ). Ready (blocks_of c) (chip_of c') i (get_or w' 2 0) (take (get_or w' 3 0) (drop 16 w'))) (sym one)
              (subst (λ (i : ℕ). Ready (blocks_of c) (chip_of c') m.head.block i (take (get_or w' 3 0) (drop 16 w'))) (sym two)
              (subst (Ready (blocks_of c) (chip_of c') m.head.block m.next) (sym rows) r.1)) in
              subst (λ (s : Says (Map (List ℕ))). Changes (record_of note key value) c f w c' f' w' a.did.ops s (Done 0)) (answer_done r.3)
              (record {
                ends =
                    inl (
                      refl,
                      r.0,
                      ap (λ (l : List ℕ). get_or l 0 0) q ∙ downed_0 v m.head.block m.next m.keys m.passed ∙ lent_before 16 k 0 w ix' (omega arith) long ∙ on,
                      record {
                        few = subst (λ (i : ℕ). get_or w' 3 0 ≤ room i) b (omega (arith, three, r.2));
                        ready = subst (λ (i : ℕ). Ready i (chip_of c') (get_or w' 1 0) (get_or w' 2 0) (take (get_or w' 3 0) (drop 16 w'))) b ready;
                      },
                      subst (λ (i : ℕ). Came true (record_of note key value) (get_or w 4 0) i c c' a.did.ops (alter key (record_of note key value).what (map_in c)))
                          (sym (ap (λ (l : List ℕ). get_or l 4 0) q ∙ downed_4 v m.head.block m.next m.keys m.passed (back_long w ix' k long))) came,
                    );
              });
        }

    -- denied: nothing happened
    run_denied : (e : Refusal) → Alters (blocks_of c) (get_or w 1 0) (get_or w 2 0) (get_or w 4 0) (get_or w 3 0) note key value noise c f (mid_of 16 k w) c' f' ix' (Err (Denied e))
        → c' ≡ c → f' ≡ f → ix' ≡ mid_of 16 k w → (w' : List ℕ) → w' ≡ put_mid 16 k w ix' → Runs note key value noise c f w c' f' w' (Refused (refusal_number e))
    unfolding wider did_more
    run_denied n a ec ef ei w' q =
        record {
          did = wider a.did;
          refused = λ _ _. (ec, ef, q ∙ lent_same 16 k w ix' ei);
          right = λ kept lit on.
              let r = a.right lit (ready_of kept lit on) in
              let e : answer ≡ refused (refusal_number n) = ap (λ (i : ℕ). due i (done (alter key (record_of note key value).what (map_in c)))) (sym r.0) ∙ due_refused (refusal_number n) _ r.1 in
              subst (λ (s : Says (Map (List ℕ))). Changes (record_of note key value) c f w c' f' w' a.did.ops s (Refused (refusal_number n))) (sym e)
              (record { ends = (refl, ec, q ∙ lent_same 16 k w ix' ei, r.2, r.3) });
        }

    -- the power went
    run_lost : Alters (blocks_of c) (get_or w 1 0) (get_or w 2 0) (get_or w 4 0) (get_or w 3 0) note key value noise c f (mid_of 16 k w) c' f' ix' (Err (Halted Dark))
        → (w' : List ℕ) → mark w' ≡ 2 → Runs note key value noise c f w c' f' w' (Refused 7)
    unfolding wider did_more
    run_lost a w' z =
        record {
          did = wider a.did;
          refused = λ u v. absurd (u refl);
          right = λ kept lit on.
              let r = a.right lit (ready_of kept lit on) in
              subst (λ (s : Says (Map (List ℕ))). Changes (record_of note key value) c f w c' f' w' a.did.ops s (Refused 7)) (answer_done r.1)
              (record {
                ends =
                    inr (
                      refl,
                      r.0,
                      z,
                      (
                        r.2.0,
                        came_cut c ok.sized.some_blocks note key value noise f c' f' (get_or w 1 0) (get_or w 2 0) _ (ready_of kept lit on) r.1 a.did (get_or w 4 0) r.2.0 r.2.1,
                      ),
                    );
              });
        }

    -- a page that was not blank: never
    run_broken : Alters (blocks_of c) (get_or w 1 0) (get_or w 2 0) (get_or w 4 0) (get_or w 3 0) note key value noise c f (mid_of 16 k w) c' f' ix' (Err (Halted Dirty))
        → (w' : List ℕ) → Runs note key value noise c f w c' f' w' (Refused 8)
    run_broken a w' = record { did = wider a.did; refused = λ u v. absurd (v refl); right = λ kept lit on. absurd (a.right lit (ready_of kept lit on)) }

    settled : (ch : Result Made Unmade) → Alters (blocks_of c) (get_or w 1 0) (get_or w 2 0) (get_or w 4 0) (get_or w 3 0) note key value noise c f (mid_of 16 k w) c' f' ix' ch
        → ChangeWithin (blocks_of c) (get_or w 3 0) ch → ChangeKept c f (mid_of 16 k w) c' f' ix' ch → get_or w 3 0 + 1 ≤ length ix'
        → (w' : List ℕ) (r : Answer) → Settles (put_mid 16 k w ix') w' ch r → Runs note key value noise c f w c' f' w' r
    settled (Ok m) a v u l w' r s =
        subst (Runs note key value noise c f w c' f' w') (sym s.says.0) (run_made m a (omega (arith, v.2)) w' s.says.1)
    settled (Err (Denied e)) a v u l w' r s =
        subst (Runs note key value noise c f w c' f' w') (sym s.says.0) (run_denied e a u.says.0 u.says.1 u.says.2 w' s.says.1)
    settled (Err (Halted Dark)) a v u l w' r s =
        subst (Runs note key value noise c f w c' f' w') (sym s.says.0)
        (run_lost a w' (ap (λ (l : List ℕ). get_or l 0 0) s.says.1 ∙ marked (put_mid 16 k w ix') 2 (back_long w ix' k long)))
    settled (Err (Halted Dirty)) a v u l w' r s = subst (Runs note key value noise c f w c' f' w') (sym s.says.0) (run_broken a w')

    -- whichever it was
    pub run_settled : (b : ℕ) → b ≡ blocks_of c → (ch : Result Made Unmade) → Alters b (get_or w 1 0) (get_or w 2 0) (get_or w 4 0) (get_or w 3 0) note key value noise c f (mid_of 16 k w) c' f' ix' ch
        → ChangeWithin b (get_or w 3 0) ch → ChangeKept c f (mid_of 16 k w) c' f' ix' ch → get_or w 3 0 + 1 ≤ length ix'
        → (w' : List ℕ) (r : Answer) → Settles (put_mid 16 k w ix') w' ch r → Runs note key value noise c f w c' f' w' r
    run_settled b e ch a v =
        settled ch
        (subst (λ (i : ℕ). Alters i (get_or w 1 0) (get_or w 2 0) (get_or w 4 0) (get_or w 3 0) note key value noise c f (mid_of 16 k w) c' f' ix' ch) e a)
        (subst (λ (i : ℕ). ChangeWithin i (get_or w 3 0) ch) e v)

-- a refusal that is handed up is the answer
pub handed_up : (e : Refusal) (r : Result ℕ Refusal) → IsErrAnd r (λ x. x ≡ e) → (P : Answer → Type 0) → P (Refused (refusal_number e)) → P (answer_of r)
handed_up e (Ok n) q P p = absurd q
handed_up e (Err x) q P p = subst (λ (y : Refusal). P (Refused (refusal_number y))) (sym q) p

-- ---- THE CALLS
module _ (c : List ℕ) (f : ℕ) (w key : List ℕ) where
  -- the answers of document 01, by the numbers that are due
  put_due : (value : List ℕ) → put_answer (lent_of c f w) key value (map_in c)
      ≡ due (lent_number (lent_of c f w) (put_number key value)) (due (denial_in false key (map_in c) (blocks_of c)) (done (alter key (some value) (map_in c))))
  put_due value =
      ap (λ (a : Says (Map (List ℕ))). lent (lent_of c f w) (keyed key (refuse 1 (not (printed key)) (refuse 2 (leb (most_value + 1) (length value)) a))))
      (refuse_due 2 (missing (lookup key (map_in c)) && leb (room (blocks_of c)) (length (map_in c))) (done (alter key (some value) (map_in c))))
      ∙ ap (lent (lent_of c f w)) (keyed_due key value (due (denial_in false key (map_in c) (blocks_of c)) (done (alter key (some value) (map_in c)))))
      ∙ lent_due (lent_of c f w) (put_number key value) (due (denial_in false key (map_in c) (blocks_of c)) (done (alter key (some value) (map_in c))))

  delete_due : delete_answer (lent_of c f w) key (map_in c)
      ≡ due (lent_number (lent_of c f w) (key_number key 0)) (due (denial_in true key (map_in c) (blocks_of c)) (done (alter key none (map_in c))))
  delete_due =
      ap (λ (a : Says (Map (List ℕ))). lent (lent_of c f w) (keyed key a)) (refuse_due 3 (missing (lookup key (map_in c))) (done (alter key none (map_in c))))
      ∙ ap (lent (lent_of c f w)) (keyed_only key (due (denial_in true key (map_in c) (blocks_of c)) (done (alter key none (map_in c)))))
      ∙ lent_due (lent_of c f w) (key_number key 0) (due (denial_in true key (map_in c) (blocks_of c)) (done (alter key none (map_in c))))

  module _ (noise : List ℕ) (i : ℕ) where
    -- refused before any search
    refused_first : (x : Rec) (s a : Says (Map (List ℕ))) → s ≡ due (lent_number (lent_of c f w) i) a → (e : Refusal) → Tested c f w i (refusal_number e)
        → Ended x noise c f w c f w s (Refused (refusal_number e))
    unfolding did_more did_none
    refused_first x s a q e t =
        let n : ℕ = refusal_number e in
        record {
          did = did_more (omega arith) (omega arith) (did_none c f);
          refused = λ _ _. (refl, refl, refl);
          size = refl;
          right = λ kept.
              subst (λ (s : Says (Map (List ℕ))). Changes x c f w c f w [] s (Refused n)) (sym (q ∙ ap (λ (j : ℕ). due j a) (sym (t.due kept)) ∙ due_refused n a (refusal_some e)))
              (record { ends = (refl, refl, refl, refl, refl) });
        }

    -- what is lent of the chip comes back as it was at the end, d and g
    module _ (c' d : List ℕ) (f' g : ℕ) (chip : c' ≡ d) (fuse : f' ≡ g) (w' : List ℕ) (size : length w' ≡ length w) (r : Answer) where
      ran : (note : Bool) (key v : List ℕ) (x : Rec) → x ≡ record_of note key v → (s a : Says (Map (List ℕ))) → s ≡ due (lent_number (lent_of c f w) i) a
          → a ≡ due (denial_in note key (map_in c) (blocks_of c)) (done (alter key (record_of note key v).what (map_in c)))
          → Tested c f w i 0 → Runs note key v noise c f w d g w' r → Ended x noise c f w c' f' w' s r
      ran note key v x k s a q z t b =
          rw (chip, fuse, k)
          (record {
            did = b.did;
            refused = b.refused;
            size = size;
            right = λ kept.
                subst (λ (s : Says (Map (List ℕ))). Changes (record_of note key v) c f w d g w' b.did.ops s r) (sym (q ∙ ap (λ (j : ℕ). due j a) (sym (t.due kept)) ∙ z))
                (b.right kept (t.lit refl) (t.marked refl));
          })

    module _ (value : List ℕ) (n : i ≡ put_number key value) where
      put_by : put_answer (lent_of c f w) key value (map_in c)
          ≡ due (lent_number (lent_of c f w) i) (due (denial_in false key (map_in c) (blocks_of c)) (done (alter key (some value) (map_in c))))
      put_by = put_due value ∙ ap (λ (j : ℕ). due (lent_number (lent_of c f w) j) (due (denial_in false key (map_in c) (blocks_of c)) (done (alter key (some value) (map_in c))))) (sym n)

      pub put_refused : (e : Refusal) → Tested c f w i (refusal_number e) → PutEnds noise c f w key value c f w (Refused (refusal_number e))
      put_refused = refused_first (record_of false key value) _ _ put_by

      pub put_ran : (c' d : List ℕ) (f' g : ℕ) → c' ≡ d → f' ≡ g → (w' : List ℕ) → length w' ≡ length w → (r : Answer) → Tested c f w i 0
          → Runs false key value noise c f w d g w' r → PutEnds noise c f w key value c' f' w' r
      put_ran c' d f' g chip fuse w' size r = ran c' d f' g chip fuse w' size r false key value _ refl _ _ put_by refl

    module _ (n : i ≡ key_number key 0) where
      delete_by : delete_answer (lent_of c f w) key (map_in c)
          ≡ due (lent_number (lent_of c f w) i) (due (denial_in true key (map_in c) (blocks_of c)) (done (alter key none (map_in c))))
      delete_by = delete_due ∙ ap (λ (j : ℕ). due (lent_number (lent_of c f w) j) (due (denial_in true key (map_in c) (blocks_of c)) (done (alter key none (map_in c))))) (sym n)

      pub delete_refused : (e : Refusal) → Tested c f w i (refusal_number e) → DeleteEnds noise c f w key c f w (Refused (refusal_number e))
      delete_refused = refused_first (record_of true key []) _ _ delete_by

      pub delete_ran : (c' d : List ℕ) (f' g : ℕ) → c' ≡ d → f' ≡ g → (w' : List ℕ) → length w' ≡ length w → (r : Answer) → Tested c f w i 0
          → Runs true key [] noise c f w d g w' r → DeleteEnds noise c f w key c' f' w' r
      delete_ran c' d f' g chip fuse w' size r = ran c' d f' g chip fuse w' size r true key [] _ refl _ _ delete_by refl
