-- A place of the oldest block is passed over, or its live value copied; and one place after another. Assumes nothing.
use mathlib.Core.Path.{◌≡◌, refl, sym, ap, ◌∙◌, subst}
use mathlib.Core.List.{List, [], ◌∷◌, ◌++◌}
use mathlib.Core.Option.{some}
use mathlib.Core.Bool.{true, false, true≢false}
use Prim.Native.Nat.{ℕ, zero, suc, ◌+◌, ◌*◌, ◌%◌, ◌≤◌, ◌<◌}
use native.Mathlib.Numerals.{add-one}
use native.Mathlib.Omega.{arith}
use lib.ListN.{length, take, set}
use lib.Seq.{take-set-lt}
use Rattle.chip.specs.Chip.{page_at}
use Rattle.chip.specs.Play.{Op, write}
use Rattle.chip.proofs.Plays.{did_none, did_more, did_then}
use Rattle.record.specs.Record.{Rec, rec_of, rec_at, anew}
use Rattle.ring_log.specs.Log.{page_of, oldest, run, pages}
use Rattle.ring_log.specs.Ring.{Chip, chip_of, sealed, spare}
use Rattle.ring_log.specs.Call.{copying, Wrote, CutWrote, Leads, Cut}
use Rattle.ring_log.specs.Opening.{Opening, fresh, none_there}
use Rattle.ring_log.proofs.Window.{page_at_lem}
use Rattle.ring_log.proofs.Steps.{spare_page}
use Rattle.ring_log.proofs.Opening.{copy_blank}
use Rattle.ring_log.proofs.Crash.{skip_done, written_at, live_what, copy_done}
use Rattle.ring_log.proofs.IndexSteps.{copy_replaces}
use Rattle.ring_log.proofs.Walk.{leads_none, leads_then, leads_cut, leads_skip, leads_copy, cut_copied}
use Rattle.std.specs.Prelude.{Option, Some, None, Result, Ok, Err}
use Rattle.chip.specs.declared.Halt.{Halt}
use Rattle.chip.specs.declared.Halt.TheVariants.{Dark, Dirty}
use Rattle.clean.specs.Ends.{unlisted}
use Rattle.clean.specs.Steps.{Midway, midway, LiveAt, Dead, JudgesBy, Judges, TurnsBy, Turns, Carried, Broken, CarriesBy, Carries}
use Rattle.clean.proofs.Judge.{judge_unlisted, dead_unused}

-- place i of the oldest block lies on its page i
pub oldest_page : (B h i : ℕ) → i < 15 → page_of B (oldest B (h + B) + i) ≡ 16 * ((h + 2) % B) + i
oldest_page B h i l =
    ap (λ (x : ℕ). page_of B (x + i)) {x = oldest B (h + B)} {y = 15 * (h + 2)} (omega arith) ∙ page_at_lem B (h + 2) i l

-- place k of the spare on its page k
pub fresh_page : (B h k : ℕ) → 4 ≤ B → k < 15 → page_of B (fresh B h + k) ≡ 16 * spare B h + k
fresh_page B h k big l = ap (λ (x : ℕ). page_of B (x + k)) {x = fresh B h} {y = 15 * (h + B + 1)} (omega arith) ∙ spare_page B big h k l

-- ---- A PLACE: place i of the oldest block is looked at, and k places of the spare are used
module _ (B : ℕ) (big : 4 ≤ B) (noise c ix : List ℕ) (size : length c ≡ 4096 * B) (f n h i k : ℕ) (l : i < 15) where
  -- by their numbers
  abbrev t : ℕ
  t = oldest B (h + B) + i

  abbrev s : ℕ
  s = fresh B h + k

  -- it has no live value
  pub look_dead : ((c₀ : Chip) → Midway B c ix n h c₀ t s → Dead B c h t s) → Turns B n h i 1 k noise c f ix c f ix (Ok k)
  unfolding did_more did_none
  look_dead dead =
      record {
        did = did_more (omega arith) (omega arith) (did_none c f);
        right = λ c₀ lit m.
            let t1 : suc t ≡ oldest B (h + B) + (i + 1) = omega arith in
            let o : Opening B h c₀ (chip_of c) (suc t) s = skip_done B big (chip_of c) (chip_of c) h c₀ t s (omega arith) (dead c₀ m) m.opening in (
              lit,
              record { opening = subst (λ (y : ℕ). Opening B h c₀ (chip_of c) y s) t1 o; rows = m.rows },
              subst (λ (y : ℕ). Leads B (midway B c h c₀ i k) (copying h c₀ (chip_of c) y s) []) t1 (leads_skip B h c₀ (chip_of c) t s (omega arith) (dead c₀ m)),
            );
      }

  -- its page is q, and was judged
  module _ (q : ℕ) (e : q ≡ 16 * ((h + 2) % B) + i) where
    -- the page of its place
    at : q ≡ page_of B t
    at = e ∙ sym (oldest_page B h i l)

    -- what was judged of the page is so of the place
    judged : (r : Option ℕ) → Judges c ix n q r → (c₀ : Chip) → Midway B c ix n h c₀ t s → JudgesBy B c h t s r
    judged r d c₀ m = d.one B h t s big size (omega arith) (omega arith) (omega (arith, m.opening.fewer)) at m.rows

    -- it has none
    pub look_on : Judges c ix n q None → Turns B n h i 1 k noise c f ix c f ix (Ok k)
    look_on d = look_dead (judged None d)

    -- it has one, whose page is pg: it is copied to the block x, the spare
    module _ (j x : ℕ) (pg : List ℕ) (low : j < n) (spares : x ≡ spare B h) (u : pg ≡ page_at c q) (d : Judges c ix n q (Some j)) where
      -- its page says what its place says
      says : (r : Rec) → rec_at c (page_of B t) ≡ some r → rec_of pg ≡ some r
      unfolding rec_at
      says r v = ap rec_of (u ∙ ap (page_at c) at) ∙ v

      module _ (c₀ : Chip) (m : Midway B c ix n h c₀ t s) where
        -- the spare has room: there is a copy for a place at most
        room : k < 15
        room = omega (arith, m.opening.fewer)

        -- the page of the place that is written
        here : 16 * x + k ≡ page_of B s
        here = ap (λ (y : ℕ). 16 * y + k) spares ∙ sym (fresh_page B h k big room)

        -- the value
        live : LiveAt B c h t s j
        live = judged (Some j) d c₀ m

        -- its place is blank
        never_dirty : (k < 15 → (chip_of c).full (16 * x + k) ≡ true) → ⊥
        never_dirty v = true≢false (sym (v room) ∙ ap (chip_of c).full here ∙ copy_blank B big h c₀ (chip_of c) t s (omega arith) m.opening)

        -- the power went
        went : (c' : List ℕ) (f' : ℕ) (ops : List Op) → 0 < f → Broken x k pg c f c' f' ops → Cut B (midway B c h c₀ i k) (chip_of c') ops
        went c' f' ops lit a =
            let a1 = live in
            let v : CutWrote (page_of B s) (some a1.rec) (chip_of c) (chip_of c') =
            subst (λ (p : ℕ). CutWrote p (some a1.rec) (chip_of c) (chip_of c')) here (a.wrote a1.rec lit (says a1.rec a1.says)) in
            subst (Cut B (midway B c h c₀ i k) (chip_of c')) (ap (λ (p : ℕ). write p (anew pg) ∷ []) (sym here) ∙ sym a.began)
            (cut_copied B h c₀ (chip_of c) t s (omega arith) (chip_of c') a1.rec a1.row (anew pg) a1.says a1.live a1.stands v)

        -- it stayed: the entry is that of the copy
        stayed : (c' ix' : List ℕ) (f' o : ℕ) (ops : List Op) → Carried x k j pg c c' f' ix ix' ops o → TurnsBy B n h c₀ i 1 k c c' f' ix' ops (Ok o)
        stayed c' ix' f' o ops a =
            let a1 = live in
            let v : Wrote (page_of B s) (some a1.rec) (chip_of c) (chip_of c') =
            subst (λ (p : ℕ). Wrote p (some a1.rec) (chip_of c) (chip_of c')) here (a.wrote a1.rec (says a1.rec a1.says)) in
            let t1 : suc t ≡ oldest B (h + B) + (i + 1) = omega arith in
            let s1 : suc s ≡ fresh B h + o = omega (arith, a.one_more) in
            let mid : Midway B c' ix' n h c₀ (suc t) (suc s) =
            record {
              opening = copy_done B big (chip_of c) (chip_of c') h c₀ t s a1.rec a1.row (omega arith) (omega arith) a1.says a1.live a1.stands m.opening v;
              rows =
                  ap (take n) a.entry ∙ take-set-lt n ix j (16 * x + k) low ∙ ap (λ (y : List ℕ). set y j (16 * x + k)) m.rows
                  ∙ ap (set (pages B (run B (rec_at c) (h + B) s)) j) here
                  ∙ sym
                  (copy_replaces B big h c₀ (chip_of c) (chip_of c') t s a1.rec a1.row (omega arith) (omega arith) a1.says a1.live a1.stands m.opening
                  (live_what B big (chip_of c) (chip_of c') h c₀ t s a1.rec a1.row (omega arith) (omega arith) a1.says a1.live a1.stands m.opening)
                  (written_at B s a1.rec (chip_of c) (chip_of c') v) none_there j a1.inside a1.entry);
            } in
            let run : Leads B (midway B c h c₀ i k) (copying h c₀ (chip_of c') (suc t) (suc s)) (write (page_of B s) (anew pg) ∷ []) =
            leads_copy B h c₀ (chip_of c) t s (omega arith) (chip_of c') a1.rec a1.row (anew pg) a1.says a1.live a1.stands v in (
              a.lit,
              subst (λ (y : ℕ). Midway B c' ix' n h c₀ y (fresh B h + o)) t1 (subst (Midway B c' ix' n h c₀ (suc t)) s1 mid),
              subst (Leads B (midway B c h c₀ i k) (midway B c' h c₀ (i + 1) o)) (ap (λ (p : ℕ). write p (anew pg) ∷ []) (sym here) ∙ sym a.began)
                  (subst (λ (y : ℕ). Leads B (midway B c h c₀ i k) (copying h c₀ (chip_of c') y (fresh B h + o)) (write (page_of B s) (anew pg) ∷ [])) t1
                  (subst (λ (y : ℕ). Leads B (midway B c h c₀ i k) (copying h c₀ (chip_of c') (suc t) y) (write (page_of B s) (anew pg) ∷ [])) s1 run)),
            )

      -- one of these
      pub look_carried : (c' ix' : List ℕ) (f' : ℕ) (r : Result ℕ Halt) → Carries x k j pg noise c f ix c' f' ix' r → Turns B n h i 1 k noise c f ix c' f' ix' r
      look_carried c' ix' f' r a = record { did = a.did; right = λ c₀ lit m. go c₀ lit m r a.did.ops a.right }
        where
          go : (c₀ : Chip) → 0 < f → Midway B c ix n h c₀ t s → (r : Result ℕ Halt) (ops : List Op) → CarriesBy x k j pg c f ix c' f' ix' ops r → TurnsBy B n h c₀ i 1 k c c' f' ix' ops r
          go c₀ lit m (Ok o) ops w = stayed c₀ m c' ix' f' o ops w
          go c₀ lit m (Err Dark) ops w = (w.out, went c₀ m c' f' ops lit w)
          go c₀ lit m (Err Dirty) ops w = never_dirty c₀ m w

-- ---- ONE AFTER ANOTHER
module _ (B n h : ℕ) (noise c : List ℕ) (f : ℕ) (ix : List ℕ) where
  -- none yet
  pub turns_none : Turns B n h 0 0 0 noise c f ix c f ix (Ok 0)
  unfolding did_none
  turns_none = record { did = did_none c f; right = λ c₀ lit m. (lit, m, leads_none B (midway B c h c₀ 0 0)) }

  module _ (i j k : ℕ) (d ix₁ : List ℕ) (g m : ℕ) (x : Turns B n h i j k noise c f ix d g ix₁ (Ok m)) where
    turns_then : (j' : ℕ) (e ix₂ : List ℕ) (l : ℕ) (r : Result ℕ Halt) → Turns B n h (i + j) j' m noise d g ix₁ e l ix₂ r → Turns B n h i (j + j') k noise c f ix e l ix₂ r
    unfolding did_then
    turns_then j' e ix₂ l r y =
        record {
          did = did_then x.did y.did;
          right = λ c₀ lit w. let p = x.right c₀ lit w in go c₀ x.did.ops y.did.ops p.2 r (y.right c₀ p.0 p.1);
        }
      where
        go : (c₀ : Chip) (os ps : List Op) → Leads B (midway B c h c₀ i k) (midway B d h c₀ (i + j) m) os → (r : Result ℕ Halt) → TurnsBy B n h c₀ (i + j) j' m d e l ix₂ ps r
            → TurnsBy B n h c₀ i (j + j') k c e l ix₂ (os ++ ps) r
        go c₀ os ps a (Ok u) q =
            let z : i + j + j' ≡ i + (j + j') = omega arith in (
              q.0,
              subst (λ (v : ℕ). Midway B e ix₂ n h c₀ (oldest B (h + B) + v) (fresh B h + u)) z q.1,
              subst (λ (v : ℕ). Leads B (midway B c h c₀ i k) (midway B e h c₀ v u) (os ++ ps)) z (leads_then B a q.2),
            )
        go c₀ os ps a (Err Dark) q = (q.0, leads_cut B a q.1)
        go c₀ os ps a (Err Dirty) q = q

  -- one place more, with n by the entries that there are then, and the noise by the chip that is lent then
  pub turns_next : (j : ℕ) (d ix₁ : List ℕ) (g m : ℕ) → Turns B n h 0 j 0 noise c f ix d g ix₁ (Ok m) → (e ix₂ : List ℕ) (l o : ℕ) (noise₁ : List ℕ) (r : Result ℕ Halt) → o ≡ n → noise₁ ≡ noise
      → Turns B o h j 1 m noise₁ d g ix₁ e l ix₂ r → Turns B n h 0 (j + 1) 0 noise c f ix e l ix₂ r
  turns_next j d ix₁ g m x e ix₂ l o noise₁ r same loud y =
      let z : j ≡ 0 + j = omega arith in
      turns_then 0 j 0 d ix₁ g m x 1 e ix₂ l r
      (subst (λ (v : ℕ). Turns B n h v 1 m noise d g ix₁ e l ix₂ r) z
      (subst (λ (v : List ℕ). Turns B n h j 1 m v d g ix₁ e l ix₂ r) loud (subst (λ (v : ℕ). Turns B v h j 1 m noise₁ d g ix₁ e l ix₂ r) same y)))

  -- where it ended early, with a larger bound
  module _ (i j j' k : ℕ) (l : j ≤ j') (c' ix' : List ℕ) (f' : ℕ) where
    pub turns_halted : (e : Halt) → Turns B n h i j k noise c f ix c' f' ix' (Err e) → Turns B n h i j' k noise c f ix c' f' ix' (Err e)
    unfolding did_more
    turns_halted e x = record { did = did_more (omega arith) l x.did; right = λ c₀ lit m. go c₀ e (x.right c₀ lit m) }
      where
        go : (c₀ : Chip) (e : Halt) → TurnsBy B n h c₀ i j k c c' f' ix' x.did.ops (Err e) → TurnsBy B n h c₀ i j' k c c' f' ix' x.did.ops (Err e)
        go c₀ Dark y = y
        go c₀ Dirty y = y

  -- all of them
  pub turns_all : (i j j' k : ℕ) (e : j ≡ j') (c' ix' : List ℕ) (f' : ℕ) (r : Result ℕ Halt) → Turns B n h i j k noise c f ix c' f' ix' r → Turns B n h i j' k noise c f ix c' f' ix' r
  turns_all i j j' k e c' ix' f' r x = subst (λ (y : ℕ). Turns B n h i y k noise c f ix c' f' ix' r) e x

-- ---- A BLOCK WITHOUT LIVE VALUES: nothing is done
module _ (B : ℕ) (big : 4 ≤ B) (noise c ix : List ℕ) (size : length c ≡ 4096 * B) (f n h : ℕ) where
  turns_dead : ((i : ℕ) → i < 15 → Turns B n h i 1 0 noise c f ix c f ix (Ok 0)) → (i : ℕ) → i ≤ 15 → Turns B n h 0 i 0 noise c f ix c f ix (Ok 0)
  turns_dead dead zero l = turns_none B n h noise c f ix
  turns_dead dead (suc i) l =
      subst (λ (y : ℕ). Turns B n h 0 y 0 noise c f ix c f ix (Ok 0)) (add-one i)
      (turns_next B n h noise c f ix i c ix f 0 (turns_dead dead i (omega arith)) c ix f n noise (Ok 0) refl refl (dead i (omega arith)))

  -- the index has no page of it
  pub turns_unlisted : (x : ℕ) → x ≡ (h + 2) % B → unlisted x ix n ≡ true → Turns B n h 0 15 0 noise c f ix c f ix (Ok 0)
  turns_unlisted x e u =
      turns_dead
      (λ i l.
      look_on B big noise c ix size f n h i 0 l (16 * ((h + 2) % B) + i) refl (judge_unlisted c ix n (16 * ((h + 2) % B) + i) x u (omega arith)))
      15 (omega arith)

  -- it isn't sealed
  pub turns_unused : sealed (chip_of c) ((h + 2) % B) ≡ false → Turns B n h 0 15 0 noise c f ix c f ix (Ok 0)
  turns_unused u =
      turns_dead (λ i l. look_dead B big noise c ix size f n h i 0 l (λ c₀ m. dead_unused B big c h i (fresh B h + 0) l m.opening.ring u)) 15 (omega arith)
