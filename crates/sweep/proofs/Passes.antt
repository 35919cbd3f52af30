-- A place of the log is passed over, or its live value carried to the head. Assumes nothing.
use mathlib.Core.Path.{◌≡◌, refl, sym, ap, ◌∙◌, subst}
use mathlib.Core.List.{List, [], ◌∷◌}
use mathlib.Core.Option.{some}
use mathlib.Core.Bool.{true≢false}
use Prim.Native.Nat.{ℕ, suc, ◌+◌, ◌-◌, ◌*◌, ◌/◌, ◌%◌, ◌≤◌, ◌<◌}
use native.Mathlib.Omega.{arith}
use lib.ListN.{length, take, set}
use lib.Seq.{take-set-lt}
use Rattle.chip.specs.Chip.{page_at}
use Rattle.chip.specs.Play.{Op, write}
use Rattle.chip.proofs.Plays.{did_none, did_more}
use Rattle.record.specs.Record.{Rec, rec_of, rec_at, anew}
use Rattle.ring_log.specs.Map.{Map, lookup}
use Rattle.ring_log.specs.Log.{Placed, page_of, FIRST, U, log_place, pages}
use Rattle.ring_log.specs.Ring.{chip_of, next, table, room, Ready}
use Rattle.ring_log.specs.Call.{resting, cursor, Wrote, CutWrote, on, Looks, Live, Dead, Goes, Ends}
use Rattle.ring_log.specs.Opening.{key_at, none_there}
use Rattle.ring_log.proofs.Window.{page_at_lem}
use Rattle.ring_log.proofs.RingLaws.{next_blank}
use Rattle.ring_log.proofs.Index.{pages_length}
use Rattle.ring_log.proofs.Steps.{Written, table_at_lem}
use Rattle.ring_log.proofs.Append.{place}
use Rattle.ring_log.proofs.Crash.{append_written}
use Rattle.ring_log.proofs.Carry.{carry_map, carry_replaces, carry_ready}
use Rattle.ring_log.proofs.Walk.{goes_pass, goes_carry, ends_carry}
use Rattle.std.specs.Prelude.{Option, Some, None, Result, Ok, Err}
use Rattle.chip.specs.declared.Halt.{Halt}
use Rattle.chip.specs.declared.Halt.TheVariants.{Dark, Dirty}
use Rattle.clean.specs.Steps.{LiveAt, JudgesBy, Judges, Carried, Broken, CarriesBy, Carries}
use Rattle.sweep.specs.Steps.{Went, PassesBy, Passes}

-- the page of log place p, of which the chip's block x is
pub log_page : (B h p x : ℕ) → x ≡ (h + (2 + (p - FIRST) / U)) % B → 16 * x + FIRST + (p - FIRST) % U ≡ page_of B (log_place B (h + B) p)
log_page B h p x e =
    let z : 15 * (h + (2 + (p - FIRST) / U)) + (FIRST + (p - FIRST) % U) ≡ log_place B (h + B) p = omega arith in
    let w : 16 * x + FIRST + (p - FIRST) % U ≡ 16 * x + (FIRST + (p - FIRST) % U) = omega arith in
    w
    ∙ ap (λ (y : ℕ). 16 * y + (FIRST + (p - FIRST) % U)) e
    ∙ sym (page_at_lem B (h + (2 + (p - FIRST) / U)) (FIRST + (p - FIRST) % U) (omega arith))
    ∙ ap (page_of B) z

-- q is the page of log place p, in the zone, where the head has x pages
module _ (B : ℕ) (big : 4 ≤ B) (noise c ix : List ℕ) (size : length c ≡ 4096 * B) (f n h x p q : ℕ) (free : x < 15) (zone : p < x + (B - 2))
    (at : q ≡ page_of B (log_place B (h + B) p)) where
  -- by its number, and that of the log's end
  abbrev t : ℕ
  t = log_place B (h + B) p

  abbrev s : ℕ
  s = 15 * (h + B) + 15

  module _ (ready : Ready B (chip_of c) h x (take n ix)) where
    -- what was judged, by the rows of the log
    judged : (r : Option ℕ) → Judges c ix n q r → JudgesBy B c h t s r
    judged r d =
        d.one B h t s big size (omega arith) (omega arith) (omega arith) at (ready.rows ∙ ap (pages B) (table_at_lem B big (chip_of c) h ready.ring))

    -- and by the table: no live value
    dead : Judges c ix n q None → Dead B (chip_of c) t
    dead d r a says row = judged None d r a says (ap (lookup r.key) (sym (table_at_lem B big (chip_of c) h ready.ring)) ∙ row)

    -- a live one
    lives : (j : ℕ) (a : LiveAt B c h t s j) → Live B (chip_of c) t a.rec a.row
    lives j a =
        record { says = a.says; row = ap (lookup a.rec.key) (table_at_lem B big (chip_of c) h ready.ring) ∙ a.live; stands = a.stands }

    -- the head has room, and there is a look, as the chip says how many pages it has
    open_head : next (chip_of c) h < 15
    open_head = omega (arith, ready.here)

    looks_on : (l top : ℕ) → Looks B (cursor p l top) x → Looks B (cursor p l top) (next (chip_of c) h)
    looks_on l top k = subst (Looks B (cursor p l top)) ready.here k

  -- it has no live value
  pub pass_on : Judges c ix n q None → Passes B n h x p noise c f ix c f ix (Ok x)
  unfolding did_more did_none
  pass_on d =
      record {
        did = did_more (omega arith) (omega arith) (did_none c f);
        right = λ l top k lit ready.
            record {
              lit = lit;
              ready = ready;
              map = refl;
              goes = goes_pass B (cursor p l top) (chip_of c) h (open_head ready) (looks_on ready l top k) (dead ready d);
            };
      }

  -- it has one, whose page is pg and whose entry is j
  module _ (j : ℕ) (pg : List ℕ) (low : j < n) (u : pg ≡ page_at c q) (d : Judges c ix n q (Some j)) where
    -- the page says what its place says
    says : (r : Rec) → rec_at c (page_of B t) ≡ some r → rec_of pg ≡ some r
    unfolding rec_at
    says r v = ap rec_of (u ∙ ap (page_at c) at) ∙ v

    module _ (ready : Ready B (chip_of c) h x (take n ix)) (l top : ℕ) (k : Looks B (cursor p l top) x) where
      -- the value
      here : LiveAt B c h t s j
      here = judged ready (Some j) d

      -- the operation, by the next place of the chip
      began : (ops : List Op) → ops ≡ write (16 * h + x) (anew pg) ∷ [] → write (16 * h + next (chip_of c) h) (anew pg) ∷ [] ≡ ops
      began ops e = ap (λ (y : ℕ). write (16 * h + y) (anew pg) ∷ []) (sym ready.here) ∙ sym e

      -- the power went
      cut : (c' : List ℕ) (f' : ℕ) (ops : List Op) → 0 < f → Broken h x pg c f c' f' ops → Ends B (cursor p l top) (resting (chip_of c) h) (chip_of c') ops
      cut c' f' ops lit a =
          let v = here in
          subst (Ends B (cursor p l top) (resting (chip_of c) h) (chip_of c')) (began ops a.began)
          (ends_carry B (cursor p l top) (chip_of c) h (open_head ready) (looks_on ready l top k) (chip_of c') (anew pg) v.rec v.row (lives ready j v)
          (subst (λ (y : ℕ). CutWrote (16 * h + y) (some v.rec) (chip_of c) (chip_of c')) ready.here (a.wrote v.rec lit (says v.rec v.says))))

      -- it stayed: the head has a page more, and the entry is that of the copy
      module _ (c' ix' : List ℕ) (f' m : ℕ) (ops : List Op) (a : Carried h x j pg c c' f' ix ix' ops m) where
        -- the write, by its page
        wrote : Wrote (16 * h + next (chip_of c) h) (some here.rec) (chip_of c) (chip_of c')
        wrote =
            let v = here in
            subst (λ (y : ℕ). Wrote (16 * h + y) (some v.rec) (chip_of c) (chip_of c')) ready.here (a.wrote v.rec (says v.rec v.says))

        -- and by its place
        written : Written B (place B big (chip_of c) h) here.rec (chip_of c) (chip_of c')
        written = append_written B big (chip_of c) (chip_of c') h ready.ring (open_head ready) here.rec wrote

        -- the index is that of the new table
        rows : take n ix' ≡ pages B (table B (chip_of c'))
        rows =
            let v = here in
            let e : table B (chip_of c) ≡ _ = table_at_lem B big (chip_of c) h ready.ring in
            ap (take n) a.entry ∙ take-set-lt n ix j (16 * h + x) low ∙ ap (λ (y : List ℕ). set y j (16 * h + x)) ready.rows
            ∙ ap (λ (y : ℕ). set (pages B (table B (chip_of c))) j (16 * h + y)) ready.here
            ∙ sym
            (carry_replaces B big (cursor p l top) (chip_of c) (chip_of c') h ready.ring (open_head ready) (looks_on ready l top k) v.rec v.row (lives ready j v)
            written none_there j (omega (arith, v.inside, ap length e)) (v.entry ∙ ap (λ (y : Map Placed). key_at none_there y j) (sym e)))

        -- memory is ready, and the cursor is on
        carried : Went B n h (cursor p l top) (on (cursor p l top)) c c' f' ix' ops m
        carried =
            let v = here in
            let few : length (table B (chip_of c)) ≤ room B = omega (arith, ready.few, ap length ready.rows, pages_length B (table B (chip_of c))) in
            let z : suc (next (chip_of c) h) ≡ m = omega (arith, ready.here, a.one_more) in
            record {
              lit = a.lit;
              ready =
                  subst (λ (y : ℕ). Ready B (chip_of c') h y (take n ix')) z
                  (carry_ready B big (cursor p l top) (chip_of c) (chip_of c') h ready.ring (open_head ready) (looks_on ready l top k) v.rec v.row (lives ready j v)
                  written (take n ix') rows few);
              map = carry_map B big (cursor p l top) (chip_of c) (chip_of c') h ready.ring (open_head ready) (looks_on ready l top k) v.rec v.row (lives ready j v) written;
              goes =
                  subst (Goes B (cursor p l top) (on (cursor p l top)) (resting (chip_of c) h) (resting (chip_of c') h)) (began ops a.began)
                  (goes_carry B (cursor p l top) (chip_of c) h (open_head ready) (looks_on ready l top k) (chip_of c') (anew pg) v.rec v.row (lives ready j v) wrote);
            }

    -- one of these
    pub pass_carried : (c' ix' : List ℕ) (f' : ℕ) (r : Result ℕ Halt) → Carries h x j pg noise c f ix c' f' ix' r → Passes B n h x p noise c f ix c' f' ix' r
    pass_carried c' ix' f' r a = record { did = a.did; right = λ l top k lit ready. go l top k lit ready r a.did.ops a.right }
      where
        go : (l top : ℕ) → Looks B (cursor p l top) x → 0 < f → Ready B (chip_of c) h x (take n ix) → (r : Result ℕ Halt) (ops : List Op)
            → CarriesBy h x j pg c f ix c' f' ix' ops r → PassesBy B n h (cursor p l top) c c' f' ix' ops r
        go l top k lit ready (Ok m) ops w = carried ready l top k c' ix' f' m ops w
        go l top k lit ready (Err Dark) ops w = record { out = w.out; ends = cut ready l top k c' f' ops lit w }
        go l top k lit ready (Err Dirty) ops w = true≢false (sym (w free) ∙ next_blank (chip_of c) h 15 x (omega (arith, ready.here)) free)
