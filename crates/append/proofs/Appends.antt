-- The record is appended, and the change made: what was found in the index, what the openings left of it, and the call that came of it. Assumes nothing.
use mathlib.Core.Path.{◌≡◌, refl, sym, ap, ◌∙◌, subst}
use mathlib.Core.List.{List, [], ◌∷◌, ◌++◌}
use mathlib.Core.Option.{Option, none, some}
use mathlib.Core.Bool.{Bool, true, false, not, ◌&&◌, true≢false}
use Prim.Native.Nat.{ℕ, suc, ◌+◌, ◌-◌, ◌*◌, ◌≤◌, ◌<◌}
use native.Mathlib.Omega.{arith}
use lib.Dec.{leb}
use lib.ListN.{length, take}
use lib.Seq.{length-take-le, take-length, take_at}
use borrow.Author.Tests.{leb-false}
use Rattle.chip.specs.Chip.{power, blank_at, written}
use Rattle.chip.specs.Play.{Op, write, Writable, Did}
use Rattle.chip.proofs.Power.{write_stayed, write_went}
use Rattle.chip.proofs.Plays.{did_none, did_write, did_meant, did_more, did_then, did_length}
use Rattle.record.specs.Record.{Rec, Proper, record_of, record_page}
use Rattle.ring_log.specs.Key.{Key}
use Rattle.ring_log.specs.Map.{Map, lookup, alter, Sorted, keys}
use Rattle.ring_log.specs.Log.{Placed, placed, pages}
use Rattle.ring_log.specs.Ring.{Chip, chip_of, Ring, next, table_at, table, map_of, head, room, Ready}
use Rattle.ring_log.specs.Call.{resting, Wrote, CutWrote, Cursor, cursor, begin, Swept, Trace, append, append_cut, Goes}
use Rattle.ring_log.specs.Answers.{missing}
use Rattle.ring_log.proofs.MapLaws.{or_zero}
use Rattle.ring_log.proofs.MapMore.{sorted_map_v}
use Rattle.ring_log.proofs.Index.{pages_length}
use Rattle.ring_log.proofs.RingLaws.{next_blank}
use Rattle.ring_log.proofs.Append.{table_sorted, place, place_page, put_table, put_map, put_ready}
use Rattle.ring_log.proofs.Steps.{Written}
use Rattle.ring_log.proofs.Crash.{append_written}
use Rattle.ring_log.proofs.AnswerLaws.{count_alter}
use Rattle.ring_log.proofs.Bytes.{wrote_record, cut_record}
use Rattle.index.specs.Index.{keys_of, Ordered}
use Rattle.index.specs.Answers.{FindsBy, Finds, put_at}
use Rattle.std.specs.Prelude.{Result, Ok, Err}
use Rattle.index.proofs.Rows.{table_keys, table_ordered, table_put, table_take}
use Rattle.tidy.specs.Steps.{PlacesBy, Places}
use Rattle.chip.specs.Lent.{Writes}
use Rattle.chip.specs.declared.Halt.{Halt}
use Rattle.chip.specs.declared.Halt.TheVariants.{Dark, Dirty}
use Rattle.clean.specs.declared.Place.{Place}
use Rattle.lent.specs.Ended.{refusal_number}
use Rattle.lent.specs.declared.Refusal.{Refusal}
use Rattle.lent.specs.declared.Refusal.TheVariants.{BadKey, LongValue, NoRoom, NoValue, BadSize, ShortBuffer, PowerGone, NotStarted}
use Rattle.append.specs.declared.Made.{Made}
use Rattle.append.specs.declared.Unmade.{Unmade}
use Rattle.append.specs.declared.Unmade.TheVariants.{Denied, Halted}
use Rattle.lent.specs.Tested.{number}
use Rattle.append.specs.Steps.{entered, is_missing, denial, denial_in, AppendsBy, Appends, AltersBy, Alters}
use Rattle.append.proofs.Runs.{record_writable}
use Rattle.index.proofs.Values.{found_value, missed_value}
use Rattle.lent.proofs.Held.{map_rows}

-- ---- THE MAP AND ITS COUNT

-- the map of a ring is sorted
pub map_sorted : (B : ℕ) → 4 ≤ B → (c : Chip) (h : ℕ) → Ring B c h → Sorted (map_of B c)
unfolding map_of
map_sorted B big c h r = sorted_map_v (λ (a : Placed). a.1) (table B c) (table_sorted B big c h r)

-- it has as many keys as memory has entries
pub ready_count : (B : ℕ) (c : Chip) (h y : ℕ) (ps : List ℕ) → Ready B c h y ps → length (map_of B c) ≡ length ps
ready_count B c h y ps r = map_rows B c ∙ sym (pages_length B (table B c)) ∙ ap length (sym r.rows)

-- a change that is not denied leaves no more keys than there is room for
pub alter_fits : (B : ℕ) (note : Bool) (key value : List ℕ) (m : Map (List ℕ)) → Sorted m → length m ≤ room B → denial_in note key m B ≡ 0
    → length (alter key (record_of note key value).what m) ≤ room B
alter_fits B true key value m s few d = omega (arith, count_alter key none m s)
alter_fits B false key value m s few d = go (lookup key m) refl d
  where
    full : (t : Bool) → leb (room B) (length m) ≡ t → number 3 t 0 ≡ 0 → length m < room B
    full true e z = absurd (omega arith)
    full false e z = omega (arith, leb-false (room B) (length m) e)

    go : (o : Option (List ℕ)) → lookup key m ≡ o → number 3 (missing o && leb (room B) (length m)) 0 ≡ 0 → length (alter key (some value) m) ≤ room B
    go none h t = omega (arith, count_alter key (some value) m s, full (leb (room B) (length m)) refl t)
    go (some u) h t = omega (arith, count_alter key (some value) m s, ap (or_zero (λ (v : List ℕ). 1)) h)

-- ---- THE APPEND

module _ (B : ℕ) (big : 4 ≤ B) (c : List ℕ) (size : length c ≡ 4096 * B) (c' : List ℕ) (h : ℕ) (r : Ring B (chip_of c) h) (free : next (chip_of c) h < 15) (key value : List ℕ) (found : Result ℕ ℕ)
    (finds : Finds (keys_of c (pages B (table B (chip_of c)))) key found) where
  -- they are those of the new table
  entered_rows : (note : Bool) → Written B (place B big (chip_of c) h) (record_of note key value) (chip_of c) (chip_of c')
      → entered note found (16 * h + next (chip_of c) h) (pages B (table B (chip_of c))) ≡ pages B (table B (chip_of c'))
  entered_rows true w =
      table_take B big c size key found finds ∙ ap (pages B) (sym (put_table B big (chip_of c) (chip_of c') h r free (record_of true key value) w))
  entered_rows false w =
      ap (λ (p : ℕ). put_at found p (pages B (table B (chip_of c)))) (sym (place_page B big (chip_of c) (chip_of c') h r free))
      ∙ table_put B big c size key found finds (placed (place B big (chip_of c) h) value)
      ∙ ap (pages B) (sym (put_table B big (chip_of c) (chip_of c') h r free (record_of false key value) w))

module _ (B : ℕ) (big : 4 ≤ B) (noise c ix : List ℕ) (size : length c ≡ 4096 * B) (f h y p n : ℕ) (found : Result ℕ ℕ) (note : Bool) (key value : List ℕ) (l : y < 15) where
  -- the page of the next place would not be blank
  append_broken : blank_at c (16 * h + y) ≡ false → Appends B h y p n found note key value noise c f ix c f ix (Err Dirty)
  append_broken z =
      record {
        did = did_more (omega arith) (omega arith) (did_none c f);
        right = λ i t s lit r finds d. true≢false (sym (ap not z) ∙ next_blank (chip_of c) h 15 y (omega (arith, r.here)) l);
      }

  module _ (c' new : List ℕ) (f' : ℕ) (i : 256 * (16 * h + y) + 256 ≤ length c) (z : blank_at c (16 * h + y) ≡ true) (proper : Proper (record_of note key value)) (g : f' ≡ f - 1)
      (u : new ≡ record_page (record_of note key value)) (w : c' ≡ written (power f) noise (16 * h + y) new c) where
    abbrev x : Rec
    x = record_of note key value

    fit : Writable (16 * h + y) (record_page x) c
    fit = record_writable c (16 * h + y) i z x proper

    did : Did 0 1 noise c f c' f'
    did = did_meant (16 * h + y) (record_page x) new c c' f f' fit u w g

    -- the power went
    append_lost : f' ≡ 0 → Appends B h y p n found note key value noise c f ix c' f' ix (Err Dark)
    unfolding did did_meant did_write
    append_lost gone =
        record {
          did = did;
          right = λ k t s lit r finds d.
              let v : CutWrote (16 * h + y) (some x) (chip_of c) (chip_of c') =
              subst (λ (e : List ℕ). CutWrote (16 * h + y) (some x) (chip_of c) (chip_of e)) (sym (write_went noise c c' f f' g (16 * h + y) (record_page x) new u w lit gone))
              (cut_record noise (16 * h + y) c x proper fit) in (
                gone,
                subst (λ (j : ℕ). Trace B x (cursor p k t) (resting (chip_of c) h) (chip_of c') p (write (16 * h + j) (record_page x) ∷ []) false) (sym r.here)
                    (append_cut (cursor p k t) (chip_of c) (chip_of c') h (record_page x) (omega (arith, r.here)) (subst (Swept B (cursor p k t)) r.here s)
                    (subst (λ (k : ℕ). CutWrote (16 * h + k) (some x) (chip_of c) (chip_of c')) r.here v)),
              );
        }

    -- it stayed
    append_made : 0 < f' → (b : ℕ) (ix' : List ℕ) (m : ℕ) → m ≤ length ix' → take m ix' ≡ entered note found (16 * h + y) (take n ix)
        → Appends B h y p n found note key value noise c f ix c' f' ix' (Ok (record { head = record { block = h; blocks = b }; next = y + 1; keys = m; passed = p }))
    unfolding did did_meant did_write
    append_made on b ix' m long e =
        record {
          did = did;
          right = λ j a s lit r finds d.
              let free : next (chip_of c) h < 15 = omega (arith, r.here) in
              let o : Wrote (16 * h + y) (some x) (chip_of c) (chip_of c') =
              subst (λ (b : List ℕ). Wrote (16 * h + y) (some x) (chip_of c) (chip_of b)) (sym (write_stayed noise c c' f f' g (16 * h + y) (record_page x) new u w on))
              (wrote_record noise (16 * h + y) c x proper fit) in
              let v : Wrote (16 * h + next (chip_of c) h) (some x) (chip_of c) (chip_of c') = subst (λ (k : ℕ). Wrote (16 * h + k) (some x) (chip_of c) (chip_of c')) r.here o in
              let t : Written B (place B big (chip_of c) h) x (chip_of c) (chip_of c') = append_written B big (chip_of c) (chip_of c') h r.ring free x v in
              let rows : take m ix' ≡ pages B (table B (chip_of c')) =
              e ∙ ap (entered note found (16 * h + y)) r.rows ∙ ap (λ (k : ℕ). entered note found (16 * h + k) (pages B (table B (chip_of c)))) r.here
              ∙ entered_rows B big c size c' h r.ring free key value found (subst (λ (ps : List ℕ). Finds (keys_of c ps) key found) r.rows finds) note t in
              let few : length (alter key x.what (map_of B (chip_of c))) ≤ room B =
              alter_fits B note key value (map_of B (chip_of c)) (map_sorted B big (chip_of c) h r.ring) (omega (arith, r.few, ready_count B (chip_of c) h y (take n ix) r)) d in
              let count : length (take m ix') ≤ room B =
              omega (arith, few, ap length rows, pages_length B (table B (chip_of c')), map_rows B (chip_of c'), ap length (altered note t free r.ring)) in
              let q : suc (next (chip_of c) h) ≡ y + 1 = omega (arith, r.here) in (
                on,
                subst (λ (k : ℕ). Ready B (chip_of c') h k (take m ix')) q
                    (put_ready B big (chip_of c) (chip_of c') h r.ring free x t (take m ix') rows (omega (arith, count))),
                omega (arith, count, length-take-le m ix' long),
                subst (λ (k : ℕ). Trace B x (cursor p j a) (resting (chip_of c) h) (chip_of c') p (write (16 * h + k) (record_page x) ∷ []) true) (sym r.here)
                    (append (cursor p j a) (chip_of c) (chip_of c') h (record_page x) free (subst (Swept B (cursor p j a)) r.here s) v),
              );
        }
      where
        altered : (b : Bool) → Written B (place B big (chip_of c) h) (record_of b key value) (chip_of c) (chip_of c') → next (chip_of c) h < 15 → Ring B (chip_of c) h
            → map_of B (chip_of c') ≡ alter key (record_of b key value).what (map_of B (chip_of c))
        altered true t free r = put_map B big (chip_of c) (chip_of c') h r free (record_of true key value) t
        altered false t free r = put_map B big (chip_of c) (chip_of c') h r free (record_of false key value) t

  -- by what the write answered
  module _ (c' new : List ℕ) (f' : ℕ) (i : 256 * (16 * h + y) + 256 ≤ length c) (proper : Proper (record_of note key value)) (u : new ≡ record_page (record_of note key value)) where
    pub append_halted : (e : Halt) → Writes (16 * h + y) new noise c f c' f' (Err e) → Appends B h y p n found note key value noise c f ix c' f' ix (Err e)
    append_halted Dark a = append_lost c' new f' i a.says.0 proper a.says.2 u a.says.1 a.says.3
    append_halted Dirty a =
        subst (λ (d : List ℕ). Appends B h y p n found note key value noise c f ix d f' ix (Err Dirty)) (sym a.says.1)
        (subst (λ (g : ℕ). Appends B h y p n found note key value noise c f ix c g ix (Err Dirty)) (sym a.says.2) (append_broken a.says.0))

    pub append_on : Writes (16 * h + y) new noise c f c' f' (Ok tt) → (b : ℕ) (ix' : List ℕ) (m : ℕ) → m ≤ length ix' → take m ix' ≡ entered note found (16 * h + y) (take n ix)
        → Appends B h y p n found note key value noise c f ix c' f' ix' (Ok (record { head = record { block = h; blocks = b }; next = y + 1; keys = m; passed = p }))
    append_on a b ix' m long e = append_made c' new f' i a.says.0 proper a.says.2 u a.says.1 a.says.3 b ix' m long e

-- with the blocks of the head that there is then, and the noise by the chip that is lent then
pub appends_at : {A B h y p n : ℕ} {found : Result ℕ ℕ} {note : Bool} {key value noise₁ noise c : List ℕ} {f : ℕ} {ix c' : List ℕ} {f' : ℕ} {ix' : List ℕ} {r : Result Made Halt} → A ≡ B
    → noise₁ ≡ noise → Appends A h y p n found note key value noise₁ c f ix c' f' ix' r → Appends B h y p n found note key value noise c f ix c' f' ix' r
appends_at {A} {B} {h} {y} {p} {n} {found} {note} {key} {value} {noise₁} {noise} {c} {f} {ix} {c'} {f'} {ix'} {r} a d x =
    subst (λ (v : ℕ). Appends v h y p n found note key value noise c f ix c' f' ix' r) a
    (subst (λ (v : List ℕ). Appends A h y p n found note key value v c f ix c' f' ix' r) d x)

-- a place was made in the part of the index that has its entries: the rest of it stays as it was
pub places_part : (e w B n h y : ℕ) (u : Cursor) (noise c : List ℕ) (f : ℕ) (ix : List ℕ) → n ≤ length ix → (c' : List ℕ) (f' : ℕ) (part rest : List ℕ) (r : Result Place Halt)
    → length part ≡ length (take n ix) → Places e w B (length (take n ix)) h y u noise c f (take n ix) c' f' part r → Places e w B n h y u noise c f ix c' f' (part ++ rest) r
places_part e w B n h y u noise c f ix long c' f' part rest r l x =
    record {
      did = x.did;
      right = λ lit ready. go r (x.right lit (subst (Ready B (chip_of c) h y) (sym (take-length (take n ix))) ready));
    }
  where
    same : take (length (take n ix)) part ≡ take n (part ++ rest)
    same =
        ap (λ (k : ℕ). take k part) (sym l) ∙ take-length part ∙ sym (take_at part rest n (l ∙ length-take-le n ix long))

    go : (r : Result Place Halt) → PlacesBy B (length (take n ix)) h u c c' f' part x.did.ops r → PlacesBy B n h u c c' f' (part ++ rest) x.did.ops r
    go (Ok v) z = (z.0, subst (Ready B (chip_of c') v.head.block v.next) same z.1, z.2, z.3)
    go (Err Dark) z = z
    go (Err Dirty) z = z

-- what was found, by another name of the bytes
pub finds_at : {d c ps : List ℕ} {key : Key} {found : Result ℕ ℕ} → d ≡ c → (Ordered d ps → Finds (keys_of d ps) key found) → Ordered c ps → Finds (keys_of c ps) key found
finds_at {d} {c} {ps} {key} {found} e = subst (λ (b : List ℕ). Ordered b ps → Finds (keys_of b ps) key found) e

-- ---- THE CHANGE

-- what an append answers, as the answer of the change
abbrev pub raised : Result Made Halt → Result Made Unmade
raised (Ok w) = Ok w
raised (Err e) = Err (Halted e)

module _ (B : ℕ) (big : 4 ≤ B) (c : List ℕ) (size : length c ≡ 4096 * B) where
  -- whether the key was found is whether it has a value
  found_missing : (key : Key) (found : Result ℕ ℕ) → Finds (keys_of c (pages B (table B (chip_of c)))) key found → is_missing found ≡ missing (lookup key (map_of B (chip_of c)))
  unfolding table table_at map_of
  found_missing key found x = go found x.says
    where
      go : (found : Result ℕ ℕ) → FindsBy (keys_of c (pages B (table B (chip_of c)))) key found → is_missing found ≡ missing (lookup key (map_of B (chip_of c)))
      go (Ok i) y = ap missing (sym (found_value B big c size (head B (chip_of c) + B) (15 * (head B (chip_of c) + B) + 15) key i y))
      go (Err i) y = ap missing (sym (missed_value B big c size (head B (chip_of c) + B) (15 * (head B (chip_of c) + B) + 15) key i y))

module _ (B : ℕ) (big : 4 ≤ B) (noise c ix : List ℕ) (size : length c ≡ 4096 * B) (f h y p n : ℕ) (long : n ≤ length ix) (note : Bool) (key value : List ℕ) (found : Result ℕ ℕ)
    (finds : Ordered c (take n ix) → Finds (keys_of c (take n ix)) key found) where
  known : Ready B (chip_of c) h y (take n ix) → Finds (keys_of c (take n ix)) key found
  known r = finds (subst (Ordered c) (sym r.rows) (table_ordered B big c size))

  -- the denial that the code finds is the one of the map
  denial_is : Ready B (chip_of c) h y (take n ix) → denial note (is_missing found) n B ≡ denial_in note key (map_of B (chip_of c)) B
  denial_is r =
      let k : Finds (keys_of c (pages B (table B (chip_of c)))) key found = subst (λ (ps : List ℕ). Finds (keys_of c ps) key found) r.rows (known r) in
      ap (λ (b : Bool). denial note b n B) (found_missing B big c size key found k)
      ∙ ap (λ (i : ℕ). denial note (missing (lookup key (map_of B (chip_of c)))) i B) (sym (ready_count B (chip_of c) h y (take n ix) r ∙ length-take-le n ix long))

  pub change_denied : (k : Refusal) → refusal_number k ≡ denial note (is_missing found) n B → Alters B h y p n note key value noise c f ix c f ix (Err (Denied k))
  unfolding did_more did_none
  change_denied k e =
      record { did = did_more (omega arith) (omega arith) (did_none c f); right = λ lit r. (e ∙ denial_is r, due k, refl, refl) }
    where
      due : (k : Refusal) → 0 < refusal_number k
      due BadKey = omega arith
      due LongValue = omega arith
      due NoRoom = omega arith
      due NoValue = omega arith
      due BadSize = omega arith
      due ShortBuffer = omega arith
      due PowerGone = omega arith
      due NotStarted = omega arith

  module _ (e : 0 ≡ denial note (is_missing found) n B) (d ix₁ : List ℕ) (g : ℕ) where
    none_due : Ready B (chip_of c) h y (take n ix) → denial_in note key (map_of B (chip_of c)) B ≡ 0
    none_due r = sym (denial_is r) ∙ sym e

    -- a place was found, and the record appended
    pub change_appended : (w : Place) (c' ix' : List ℕ) (f' : ℕ) (r : Result Made Halt) → Places (B - 2) (16 * (B - 2) + 16) B n h y (begin p) noise c f ix d g ix₁ (Ok w)
        → Appends B w.head.block w.next w.passed n found note key value noise d g ix₁ c' f' ix' r → Alters B h y p n note key value noise c f ix c' f' ix' (raised r)
    unfolding did_more did_then
    change_appended w c' ix' f' r a b =
        record {
          did = did_more (omega arith) (omega arith) (did_then a.did b.did);
          right = λ lit ready.
              let m = a.right lit ready in
              let size₂ : length d ≡ 4096 * B = did_length a.did ∙ size in
              let same : keys_of c (take n ix) ≡ keys_of d (take n ix₁) =
              ap (keys_of c) ready.rows ∙ table_keys B big c size ∙ ap keys (sym m.2) ∙ sym (table_keys B big d size₂) ∙ ap (keys_of d) (sym m.1.rows) in
              let none₂ : denial_in note key (map_of B (chip_of d)) B ≡ 0 = ap (λ (q : Map (List ℕ)). denial_in note key q B) m.2 ∙ none_due ready in
              go a.did.ops b.did.ops m.3.0 r (none_due ready) m.3.2
              (b.right w.left m.3.0 m.3.1 m.0 m.1 (subst (λ (ks : List Key). Finds ks key found) same (known ready)) none₂);
        }
      where
        go : (os ps : List Op) (t : ℕ) (r : Result Made Halt) → denial_in note key (map_of B (chip_of c)) B ≡ 0
            → Goes B (begin p) (cursor w.passed w.left t) (resting (chip_of c) h) (resting (chip_of d) w.head.block) os
            → AppendsBy B (record_of note key value) (cursor w.passed w.left t) w.head.block d c' f' ix' ps r → AltersBy B note key value h p c f c' f' ix' (os ++ ps) (raised r)
        go os ps t (Ok x) z v q = (q.0, q.1, q.2, z, v.then (record_of note key value) (chip_of c') x.passed ps true q.3)
        go os ps t (Err Dark) z v q = (q.0, z, (w.passed, v.then (record_of note key value) (chip_of c') w.passed ps false q.1))
        go os ps t (Err Dirty) z v q = q

    -- it ended before
    pub change_halted : (w : Halt) → Places (B - 2) (16 * (B - 2) + 16) B n h y (begin p) noise c f ix d g ix₁ (Err w) → Alters B h y p n note key value noise c f ix d g ix₁ (Err (Halted w))
    unfolding did_more
    change_halted Dark a =
        record {
          did = did_more (omega arith) (omega arith) a.did;
          right = λ lit r. let m = a.right lit r in (m.0, none_due r, (m.1.stood, m.1.short (record_of note key value)));
        }
    change_halted Dirty a = record { did = did_more (omega arith) (omega arith) a.did; right = λ lit r. a.right lit r }
