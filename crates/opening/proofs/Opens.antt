-- An opening from its beginning to the seal, and openings until there is room. Assumes nothing.
use mathlib.Core.Path.{◌≡◌, refl, sym, ap, ◌∙◌, subst}
use mathlib.Core.List.{List, [], ◌∷◌, ◌++◌}
use mathlib.Core.Option.{none}
use mathlib.Core.Bool.{true, false, not, true≢false}
use Prim.Native.Nat.{ℕ, zero, suc, ◌+◌, ◌-◌, ◌*◌, ◌%◌, ◌≤◌, ◌<◌}
use native.Mathlib.Numerals.{add-one}
use native.Mathlib.Omega.{arith}
use lib.ListN.{length, take}
use Rattle.chip.specs.Chip.{power, blank_at, written, erased}
use Rattle.chip.specs.Lent.{Lit, Writes}
use Rattle.chip.specs.Play.{Op, erase, Writable, Did}
use Rattle.chip.proofs.Power.{write_stayed, write_went, erase_stayed}
use Rattle.chip.proofs.Plays.{did_none, did_erase, did_write, did_meant, did_more, did_then}
use Rattle.record.specs.Record.{rec_at, seal_page}
use Rattle.ring_log.specs.Log.{oldest, run, pages, FIRST}
use Rattle.ring_log.specs.Ring.{Chip, chip_of, sealed, spare, table, map_of, room, Ready}
use Rattle.ring_log.specs.Call.{State, resting, copying, cursor, Goes, Block, Erased, Wrote, CutWrote, Leads, Cut}
use Rattle.ring_log.specs.Opening.{Opening, fresh, Moved}
use Rattle.ring_log.proofs.Index.{pages_length}
use Rattle.ring_log.proofs.Opening.{opening_erased, opening_fresh, opening_map, opening_ready}
use Rattle.ring_log.proofs.CallCost.{moved_start, moved_few, moved_open}
use Rattle.ring_log.proofs.RingLaws.{next_le}
use Rattle.ring_log.proofs.IndexSteps.{erased_keeps, first_keeps}
use Rattle.ring_log.proofs.Bytes.{wrote_seal, cut_seal, block_erased, whole_erased}
use Rattle.ring_log.proofs.Walk.{goes_none, goes_then, goes_ends, leads_back, leads_cut, leads_erase, cut_erase, leads_first, leads_seal, cut_sealed}
use Rattle.chip.specs.declared.Halt.{Halt}
use Rattle.std.specs.Prelude.{Result, Ok, Err}
use Rattle.chip.specs.declared.Halt.TheVariants.{Dark, Dirty}
use Rattle.clean.specs.declared.Place.{Place}
use Rattle.clean.specs.Steps.{midway, Turns}
use Rattle.opening.specs.Steps.{Clears, OpensBy, Seals, Fills, Opens, Rooms}
use Rattle.opening.proofs.Runs.{seal_writable}

-- memory that is ready has no more rows than there is room for
few_rows : (B : ℕ) (c : Chip) (h y : ℕ) (ps : List ℕ) → Ready B c h y ps → length (table B c) ≤ room B
few_rows B c h y ps r = omega (arith, r.few, ap length r.rows, pages_length B (table B c))

-- ---- THE BEGINNING
module _ (B : ℕ) (big : 4 ≤ B) (noise c : List ℕ) (f h o : ℕ) (e : o ≡ (h + 2) % B) where
  -- no place is done yet
  start : (d : Chip) → Opening B h (chip_of c) d (oldest B (h + B)) (fresh B h) → Opening B h (chip_of c) d (oldest B (h + B) + 0) (fresh B h + 0)
  start d x =
      let t : oldest B (h + B) ≡ oldest B (h + B) + 0 = omega arith in
      let s : fresh B h ≡ fresh B h + 0 = omega arith in
      subst (λ (y : ℕ). Opening B h (chip_of c) d y (fresh B h + 0)) t (subst (λ (y : ℕ). Opening B h (chip_of c) d (oldest B (h + B)) y) s x)

  begin : (c' : List ℕ) (os : List Op) → Leads B (resting (chip_of c) h) (copying h (chip_of c) (chip_of c') (oldest B (h + B)) (fresh B h)) os
      → Leads B (resting (chip_of c) h) (midway B c' h (chip_of c) 0 0) os
  begin c' os x =
      let t : oldest B (h + B) ≡ oldest B (h + B) + 0 = omega arith in
      let s : fresh B h ≡ fresh B h + 0 = omega arith in
      subst (λ (y : ℕ). Leads B (resting (chip_of c) h) (copying h (chip_of c) (chip_of c') y (fresh B h + 0)) os) t
      (subst (λ (y : ℕ). Leads B (resting (chip_of c) h) (copying h (chip_of c) (chip_of c') (oldest B (h + B)) y) os) s x)

  rows : (c' : List ℕ) → pages B (run B (rec_at c') (h + B) (fresh B h)) ≡ pages B (table B (chip_of c)) → pages B (run B (rec_at c') (h + B) (fresh B h + 0)) ≡ pages B (table B (chip_of c))
  rows c' x =
      let s : fresh B h ≡ fresh B h + 0 = omega arith in
      subst (λ (y : ℕ). pages B (run B (rec_at c') (h + B) y) ≡ pages B (table B (chip_of c))) s x

  -- in the first round the oldest block is not sealed: the spare is blank
  pub clears_first : blank_at c (16 * o + 15) ≡ true → Clears B h noise c f c f (Ok tt)
  unfolding did_more did_none
  clears_first z =
      record {
        did = did_more (omega arith) (omega arith) (did_none c f);
        right = λ lit r full.
            let t : sealed (chip_of c) ((h + 2) % B) ≡ false = ap (λ (x : ℕ). not (blank_at c (16 * x + 15))) (sym e) ∙ ap not z in (
              lit,
              start (chip_of c) (opening_fresh B big h (chip_of c) r t),
              rows c (first_keeps B big h (chip_of c) r),
              begin c [] (leads_first B (chip_of c) (chip_of c) h full t),
            );
      }

  module _ (z : blank_at c (16 * o + 15) ≡ false) (c' : List ℕ) (f' s : ℕ) (i : 4096 * s + 4096 ≤ length c) (d : s ≡ (h + 1) % B) (g : f' ≡ f - 1) (w : c' ≡ erased (power f) noise s c) where
    closed : sealed (chip_of c) ((h + 2) % B) ≡ true
    closed = ap (λ (x : ℕ). not (blank_at c (16 * x + 15))) (sym e) ∙ ap not z

    block : (q : c' ≡ erased (power f) noise s c) → Block (spare B h) (chip_of c) (chip_of c')
    block q =
        subst (λ (x : ℕ). Block x (chip_of c) (chip_of c')) d
        (subst (λ (x : List ℕ). Block s (chip_of c) (chip_of x)) (sym q) (block_erased noise s c i (power f)))

    -- the erase was whole
    clears_erased : 0 < f' → Clears B h noise c f c' f' (Ok tt)
    unfolding did_erase
    clears_erased on =
        record {
          did = did_erase s c c' f f' i w g;
          right = λ lit r full.
              let v : Erased (spare B h) (chip_of c) (chip_of c') =
              subst (λ (x : ℕ). Erased x (chip_of c) (chip_of c')) d
              (subst (λ (x : List ℕ). Erased s (chip_of c) (chip_of x)) (sym (erase_stayed noise c c' f f' g s w on)) (whole_erased noise s c i)) in (
                on,
                start (chip_of c') (opening_erased B big h (chip_of c) (chip_of c') r closed v.block v.blank),
                rows c' (erased_keeps B big h (chip_of c) (chip_of c') r v.block),
                subst (λ (x : ℕ). Leads B (resting (chip_of c) h) (midway B c' h (chip_of c) 0 0) (erase x ∷ [])) (sym d)
                    (begin c' (erase (spare B h) ∷ []) (leads_erase B (chip_of c) (chip_of c') h full closed v)),
              );
        }

    -- the power went
    clears_dark : f' ≡ 0 → Clears B h noise c f c' f' (Err Dark)
    unfolding did_erase
    clears_dark gone =
        record {
          did = did_erase s c c' f f' i w g;
          right = λ lit r full. (
            gone,
            subst (λ (x : ℕ). Cut B (resting (chip_of c) h) (chip_of c') (erase x ∷ [])) (sym d) (cut_erase B (chip_of c) (chip_of c') h full closed (block w)),
          );
        }

    -- by what the erase answered
    pub clears_by : (r : Result (Unit {0}) Halt) → Lit f' r → Clears B h noise c f c' f' r
    clears_by (Ok u) on = clears_erased on
    clears_by (Err Dark) gone = clears_dark gone
    clears_by (Err Dirty) z = absurd z

-- ---- THE SEAL
module _ (B : ℕ) (big : 4 ≤ B) (noise c : List ℕ) (f h k : ℕ) where
  -- the page of the seal would not be blank
  seal_dirty : blank_at c (16 * h + 15) ≡ false → Seals B h k noise c f c f (Err Dirty)
  seal_dirty z =
      record {
        did = did_more (omega arith) (omega arith) (did_none c f);
        right = λ c₀ n ix lit m full few. true≢false (sym (ap not z) ∙ m.opening.ring.unsealed);
      }

  module _ (c' new : List ℕ) (f' : ℕ) (i : 256 * (16 * h + 15) + 256 ≤ length c) (z : blank_at c (16 * h + 15) ≡ true) (g : f' ≡ f - 1) (u : new ≡ seal_page)
      (w : c' ≡ written (power f) noise (16 * h + 15) new c) where
    fit : Writable (16 * h + 15) seal_page c
    fit = seal_writable noise c c' f f' (16 * h + 15) i z g

    did : Did 0 1 noise c f c' f'
    did = did_meant (16 * h + 15) seal_page new c c' f f' fit u w g

    -- the power went
    seal_dark : f' ≡ 0 → Seals B h k noise c f c' f' (Err Dark)
    unfolding did did_meant did_write
    seal_dark gone =
        record {
          did = did;
          right = λ c₀ n ix lit m full few. (
            gone,
            cut_sealed B h c₀ (chip_of c) (chip_of c') (fresh B h + k) seal_page
                (subst (λ (d : List ℕ). CutWrote (16 * h + 15) none (chip_of c) (chip_of d)) (sym (write_went noise c c' f f' g (16 * h + 15) seal_page new u w lit gone))
                (cut_seal noise (16 * h + 15) c fit)),
          );
        }

    -- it stayed: the spare is the head
    seal_on : 0 < f' → Seals B h k noise c f c' f' (Ok k)
    unfolding did did_meant did_write
    seal_on on =
        record {
          did = did;
          right = λ c₀ n ix lit m full few.
              let s : ℕ = fresh B h + k in
              let v : Wrote (16 * h + 15) none (chip_of c) (chip_of c') =
              subst (λ (d : List ℕ). Wrote (16 * h + 15) none (chip_of c) (chip_of d)) (sym (write_stayed noise c c' f f' g (16 * h + 15) seal_page new u w on))
              (wrote_seal noise (16 * h + 15) c fit) in
              let q : s - fresh B h ≡ k = omega arith in (
                on,
                record {
                  ready =
                      subst (λ (y : ℕ). Ready B (chip_of c') (spare B h) y (take n ix)) q
                      (opening_ready B big h c₀ (chip_of c) (chip_of c') s m.opening v.page v.fills few (take n ix) m.rows);
                  map = opening_map B big h c₀ (chip_of c) (chip_of c') s m.opening v.page v.fills;
                  progress = λ b j K x.
                      (K + (s - fresh B h), moved_open B b h c₀ (chip_of c) (chip_of c') s j K m.opening v.page v.fills full x);
                },
                leads_seal B h c₀ (chip_of c) (chip_of c') s seal_page v,
              );
        }

  -- by what the write answered
  module _ (c' new : List ℕ) (f' : ℕ) (i : 256 * (16 * h + 15) + 256 ≤ length c) (u : new ≡ seal_page) where
    pub seal_halted : (e : Halt) → Writes (16 * h + 15) new noise c f c' f' (Err e) → Seals B h k noise c f c' f' (Err e)
    seal_halted Dark a = seal_dark c' new f' i a.says.0 a.says.2 u a.says.1 a.says.3
    seal_halted Dirty a =
        subst (λ (d : List ℕ). Seals B h k noise c f d f' (Err Dirty)) (sym a.says.1)
        (subst (λ (g : ℕ). Seals B h k noise c f c g (Err Dirty)) (sym a.says.2) (seal_dirty a.says.0))

    pub seal_written : Writes (16 * h + 15) new noise c f c' f' (Ok tt) → Seals B h k noise c f c' f' (Ok k)
    seal_written a = seal_on c' new f' i a.says.0 a.says.2 u a.says.1 a.says.3

-- ---- ONE STRETCH AFTER ANOTHER
module _ (B n h : ℕ) (c₀ : Chip) (st st' : State) (c' ix' : List ℕ) (f' : ℕ) (os ps : List Op) where
  opens_after : (r : Result ℕ Halt) → Leads B st st' os → OpensBy B n h c₀ st' c' f' ix' ps r → OpensBy B n h c₀ st c' f' ix' (os ++ ps) r
  opens_after (Ok k) a q = (q.0, q.1, leads_back B a q.2)
  opens_after (Err Dark) a q = (q.0, leads_cut B a q.1)
  opens_after (Err Dirty) a q = q

module _ (B n h : ℕ) (noise c ix : List ℕ) (f : ℕ) (d ix₁ : List ℕ) (g : ℕ) where
  -- the places, then the seal
  pub fills_sealed : (k : ℕ) (noise₁ e : List ℕ) (l : ℕ) (r : Result ℕ Halt) → noise₁ ≡ noise → Turns B n h 0 15 0 noise c f ix d g ix₁ (Ok k) → Seals B h k noise₁ d g e l r
      → Fills B n h noise c f ix e l ix₁ r
  unfolding did_more did_then
  fills_sealed k noise₁ e l r same x y₁ =
      let y : Seals B h k noise d g e l r = subst (λ (z : List ℕ). Seals B h k z d g e l r) same y₁ in
      record {
        did = did_more (omega arith) (omega arith) (did_then x.did y.did);
        right = λ c₀ lit m full few.
            let p = x.right c₀ lit m in
            opens_after B n h c₀ (midway B c h c₀ 0 0) (midway B d h c₀ 15 k) e ix₁ l x.did.ops y.did.ops r p.2 (y.right c₀ n ix₁ p.0 p.1 full few);
      }

  pub fills_halted : (e : Halt) → Turns B n h 0 15 0 noise c f ix d g ix₁ (Err e) → Fills B n h noise c f ix d g ix₁ (Err e)
  unfolding did_more
  fills_halted Dark x = record { did = did_more (omega arith) (omega arith) x.did; right = λ c₀ lit m full few. x.right c₀ lit m }
  fills_halted Dirty x = record { did = did_more (omega arith) (omega arith) x.did; right = λ c₀ lit m full few. x.right c₀ lit m }

module _ (B n h : ℕ) (noise c ix : List ℕ) (f : ℕ) (d : List ℕ) (g : ℕ) where
  -- the beginning, then the places and the seal
  pub opens_filled : (noise₁ e ix₂ : List ℕ) (l : ℕ) (r : Result ℕ Halt) → noise₁ ≡ noise → Clears B h noise c f d g (Ok tt) → Fills B n h noise₁ d g ix e l ix₂ r
      → Opens B n h noise c f ix e l ix₂ r
  unfolding did_more did_then
  opens_filled noise₁ e ix₂ l r same x y₁ =
      let y : Fills B n h noise d g ix e l ix₂ r = subst (λ (z : List ℕ). Fills B n h z d g ix e l ix₂ r) same y₁ in
      record {
        did = did_more (omega arith) (omega arith) (did_then x.did y.did);
        right = λ lit z.
            let p = x.right lit z.ring (sym z.here) in
            opens_after B n h (chip_of c) (resting (chip_of c) h) (midway B d h (chip_of c) 0 0) e ix₂ l x.did.ops y.did.ops r p.3
            (y.right (chip_of c) p.0 (record { opening = p.1; rows = z.rows ∙ sym p.2 }) (sym z.here) (few_rows B (chip_of c) h 15 (take n ix) z));
      }

  pub opens_halted : (e : Halt) → Clears B h noise c f d g (Err e) → Opens B n h noise c f ix d g ix (Err e)
  unfolding did_more
  opens_halted Dark x = record { did = did_more (omega arith) (omega arith) x.did; right = λ lit z. x.right lit z.ring (sym z.here) }
  opens_halted Dirty x = record { did = did_more (omega arith) (omega arith) x.did; right = λ lit z. x.right lit z.ring (sym z.here) }

-- with the blocks of the head that there is then, n by the entries, and the noise by the chip that is lent then
pub opens_at : {A B o n h : ℕ} {noise₁ noise c : List ℕ} {f : ℕ} {ix c' : List ℕ} {f' : ℕ} {ix' : List ℕ} {r : Result ℕ Halt} → A ≡ B → o ≡ n → noise₁ ≡ noise
    → Opens A o h noise₁ c f ix c' f' ix' r → Opens B n h noise c f ix c' f' ix' r
opens_at {A} {B} {o} {n} {h} {noise₁} {noise} {c} {f} {ix} {c'} {f'} {ix'} {r} a e d x =
    subst (λ (v : ℕ). Opens v n h noise c f ix c' f' ix' r) a
    (subst (λ (v : ℕ). Opens A v h noise c f ix c' f' ix' r) e (subst (λ (v : List ℕ). Opens A o h v c f ix c' f' ix' r) d x))

-- ---- ROOM: the loop, after j openings

-- how far a sweep may fill the head then
abbrev top_after : ℕ → ℕ → ℕ
top_after zero t = t
top_after (suc j) t = 14

top_some : (j t : ℕ) → 0 < j → top_after j t ≡ 14
top_some zero t l = absurd (omega arith)
top_some (suc j) t l = refl

module _ (B : ℕ) (big : 4 ≤ B) (n h p l : ℕ) (noise c : List ℕ) (f : ℕ) (ix : List ℕ) where
  -- the head is k, with y pages; the cursor stands at q, with m looks left
  pub record Going (d : List ℕ) (g : ℕ) (ix₁ : List ℕ) (k y q m j : ℕ) : Type 0 where
    pub did : Did j (16 * j) noise c f d g
    pub right : 0 < f → Ready B (chip_of c) h 15 (take n ix)
        → (0 < g) × Ready B (chip_of d) k y (take n ix₁) × (map_of B (chip_of d) ≡ map_of B (chip_of c))
        × ((t : ℕ) → Goes B (cursor p l t) (cursor q m (top_after j t)) (resting (chip_of c) h) (resting (chip_of d) k) did.ops)
        × ((K : ℕ) × Moved B (chip_of d) k j K)

  -- none yet
  pub going_none : Going c f ix h 15 p l 0
  unfolding did_more did_none
  going_none =
      record {
        did = did_more (omega arith) (omega arith) (did_none c f);
        right = λ lit r. (
          lit,
          r,
          refl,
          λ t. goes_none B (cursor p l t) (resting (chip_of c) h),
          (0, moved_start B big (chip_of c) h (few_rows B (chip_of c) h 15 (take n ix) r)),
        );
      }

  -- one more; or it ended there
  module _ (d ix₁ : List ℕ) (g k y q m j : ℕ) (few : j < B - 2) (full : 15 ≤ y) (a : Going d g ix₁ k y q m j) where
    at_full : 0 < f → Ready B (chip_of c) h 15 (take n ix) → Ready B (chip_of d) k 15 (take n ix₁)
    at_full lit r =
        let z = a.right lit r in
        subst (λ (i : ℕ). Ready B (chip_of d) k i (take n ix₁)) (let e : y ≡ 15 = omega (arith, z.1.here, next_le (chip_of d) k 15) in e) z.1

    on : (e ix₂ : List ℕ) (u v : ℕ) → Opens B n k noise d g ix₁ e u ix₂ (Ok v) → Going e u ix₂ (spare B k) v (q - 15 + FIRST) (m - (15 - q)) (suc j)
    unfolding did_more did_then
    on e ix₂ u v b =
        record {
          did = did_more (omega arith) (omega arith) (did_then a.did b.did);
          right = λ lit r.
              let z = a.right lit r in
              let o = b.right z.0 (at_full lit r) in
              let w = o.1.progress big j z.4.0 z.4.1 in (
                o.0,
                o.1.ready,
                o.1.map ∙ z.2,
                λ t. goes_then B (z.3 t) (o.2.then (cursor q m (top_after j t))),
                (w.0, w.1),
              );
        }

    pub going_on : (e ix₂ : List ℕ) (u v k' q' m' : ℕ) → k' ≡ spare B k → q' ≡ q - 15 + FIRST → m' ≡ m - (15 - q) → Opens B n k noise d g ix₁ e u ix₂ (Ok v)
        → Going e u ix₂ k' v q' m' (j + 1)
    going_on e ix₂ u v k' q' m' e₁ e₂ e₃ b = rw (e₁, e₂, e₃, add-one j) (on e ix₂ u v b)

    pub going_halted : (e ix₂ : List ℕ) (u : ℕ) (w : Halt) → Opens B n k noise d g ix₁ e u ix₂ (Err w) → Rooms B n h p l noise c f ix e u ix₂ (Err w)
    unfolding did_more did_then
    going_halted e ix₂ u Dark b =
        record {
          did = did_more (omega arith) (omega arith) (did_then a.did b.did);
          right = λ lit r.
              let z = a.right lit r in
              let o = b.right z.0 (at_full lit r) in
              (o.0, λ t. goes_ends B (z.3 t) (o.1.short (cursor q m (top_after j t))));
        }
    going_halted e ix₂ u Dirty b =
        record { did = did_more (omega arith) (omega arith) (did_then a.did b.did); right = λ lit r. b.right (a.right lit r).0 (at_full lit r) }

  -- there is room, after an opening at least
  pub room_found : (d ix₁ : List ℕ) (g j : ℕ) (w : Place) → 0 < j → j ≤ B - 2 → Going d g ix₁ w.head.block w.next w.passed w.left j → Rooms B n h p l noise c f ix d g ix₁ (Ok w)
  unfolding did_more
  room_found d ix₁ g j w some few a =
      record {
        did = did_more (omega arith) (omega arith) a.did;
        right = λ lit r.
            let z = a.right lit r in (
              z.0,
              z.1,
              z.2,
              λ t. subst (λ (i : ℕ). Goes B (cursor p l t) (cursor w.passed w.left i) (resting (chip_of c) h) (resting (chip_of d) w.head.block) a.did.ops) (top_some j t some) (z.3 t),
            );
      }

  -- there is none after all: that can't be, since no value is moved twice
  pub room_none : (d ix₁ : List ℕ) (g k y q m j : ℕ) → j ≡ B - 2 → 15 ≤ y → Going d g ix₁ k y q m j → Rooms B n h p l noise c f ix d g ix₁ (Err Dirty)
  room_none d ix₁ g k y q m j out full a =
      record {
        did = did_more (omega arith) (omega arith) a.did;
        right = λ lit r.
            let z = a.right lit r in
            let w : y ≡ 15 = omega (arith, z.1.here, next_le (chip_of d) k 15) in
            omega (arith, moved_few B big (chip_of d) k j z.4.0 z.4.1 (sym z.1.here ∙ w));
      }
