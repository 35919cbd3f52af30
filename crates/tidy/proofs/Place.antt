-- A PLACE FOR THE RECORD: a sweep, and where the head is full an opening and the rest of the sweep. Assumes nothing.
use mathlib.Core.Path.{◌≡◌, sym, ap, ◌∙◌, subst}
use mathlib.Core.List.{List, ◌++◌}
use Prim.Native.Nat.{ℕ, ◌+◌, ◌-◌, ◌*◌, ◌≤◌}
use native.Mathlib.Omega.{arith}
use lib.ListN.{take}
use Rattle.std.specs.Prelude.{Result, Ok, Err, IfOk}
use Rattle.chip.specs.declared.Halt.{Halt}
use Rattle.chip.specs.declared.Halt.TheVariants.{Dark, Dirty}
use Rattle.chip.specs.Play.{Op}
use Rattle.chip.proofs.Plays.{did_more, did_then}
use Rattle.ring_log.specs.declared.Head.{Head}
use Rattle.ring_log.specs.Ring.{chip_of, map_of, Ready}
use Rattle.ring_log.specs.Call.{resting, Cursor, cursor, begin, Goes}
use Rattle.ring_log.proofs.RingLaws.{next_le}
use Rattle.ring_log.proofs.Walk.{goes_then, goes_ends}
use Rattle.sweep.specs.Steps.{Sweeps}
use Rattle.clean.specs.declared.Place.{Place}
use Rattle.opening.specs.Steps.{Rooms}
use Rattle.tidy.specs.Steps.{PlacesBy, Places}

-- a sweep alone, where it leaves a place
module _ (B n : ℕ) (head : Head) (x p l t : ℕ) (noise c : List ℕ) (f : ℕ) (ix c' : List ℕ) (f' : ℕ) (ix' : List ℕ) where
  abbrev h : ℕ
  h = head.block

  pub swept_place : (r : Result Place Halt) → IfOk r (λ (w : Place). w.head ≡ head) → Sweeps B n h x p l t noise c f ix c' f' ix' r
      → Places 0 l B n h x (cursor p l t) noise c f ix c' f' ix' r
  swept_place (Ok w) e a =
      let z : h ≡ w.head.block = sym (ap (λ (k : Head). k.block) e) in
      record {
        did = a.did;
        right = λ lit r.
            let v = a.right lit r in (
              v.0.lit,
              subst (λ (k : ℕ). Ready B (chip_of c') k w.next (take n ix')) z v.0.ready,
              v.0.map,
              (t, v.1, subst (λ (k : ℕ). Goes B (cursor p l t) (cursor w.passed w.left t) (resting (chip_of c) h) (resting (chip_of c') k) a.did.ops) z v.0.goes),
            );
      }
  swept_place (Err Dark) e a = record { did = a.did; right = λ lit r. let w = a.right lit r in (w.out, w.ends) }
  swept_place (Err Dirty) e a = record { did = a.did; right = λ lit r. a.right lit r }

-- larger bounds
pub places_more : {e w e' w' B n h y : ℕ} {u : Cursor} {noise c : List ℕ} {f : ℕ} {ix c' : List ℕ} {f' : ℕ} {ix' : List ℕ} {r : Result Place Halt} → e ≤ e' → w ≤ w'
    → Places e w B n h y u noise c f ix c' f' ix' r → Places e' w' B n h y u noise c f ix c' f' ix' r
unfolding did_more
places_more a b x = record { did = did_more a b x.did; right = x.right }

-- with the blocks of the head that there is then, n by the entries, and the noise by the chip that is lent then
pub places_at : {e w A B o n h y : ℕ} {u : Cursor} {noise₁ noise c : List ℕ} {f : ℕ} {ix c' : List ℕ} {f' : ℕ} {ix' : List ℕ} {r : Result Place Halt} → A ≡ B → o ≡ n → noise₁ ≡ noise
    → Places e w A o h y u noise₁ c f ix c' f' ix' r → Places e w B n h y u noise c f ix c' f' ix' r
places_at {e} {w} {A} {B} {o} {n} {h} {y} {u} {noise₁} {noise} {c} {f} {ix} {c'} {f'} {ix'} {r} a b d x =
    subst (λ (v : ℕ). Places e w v n h y u noise c f ix c' f' ix' r) a
    (subst (λ (v : ℕ). Places e w A v h y u noise c f ix c' f' ix' r) b (subst (λ (v : List ℕ). Places e w A o h y u v c f ix c' f' ix' r) d x))

-- one stretch, then a place
module _ (B n h : ℕ) (u v : Cursor) (c d : List ℕ) (k : ℕ) (os ps : List Op) (same : map_of B (chip_of d) ≡ map_of B (chip_of c))
    (w : Goes B u v (resting (chip_of c) h) (resting (chip_of d) k) os) where
  places_after : (c' ix' : List ℕ) (f' : ℕ) (r : Result Place Halt) → PlacesBy B n k v d c' f' ix' ps r → PlacesBy B n h u c c' f' ix' (os ++ ps) r
  places_after c' ix' f' (Ok x) z = (z.0, z.1, z.2 ∙ same, (z.3.0, z.3.1, goes_then B w z.3.2))
  places_after c' ix' f' (Err Dark) z = (z.0, goes_ends B w z.1)
  places_after c' ix' f' (Err Dirty) z = z

module _ (B n h p l : ℕ) (noise c : List ℕ) (f : ℕ) (ix d ix₁ : List ℕ) (g : ℕ) where
  -- room was made, and the rest of the looks
  pub more_swept : (w : Place) (c' ix' : List ℕ) (f' : ℕ) (r : Result Place Halt) → w.left ≤ l → Rooms B n h p l noise c f ix d g ix₁ (Ok w)
      → Places 0 w.left B n w.head.block w.next (cursor w.passed w.left 14) noise d g ix₁ c' f' ix' r
      → Places (B - 2) (16 * (B - 2) + l) B n h 15 (cursor p l 15) noise c f ix c' f' ix' r
  unfolding did_more did_then
  more_swept w c' ix' f' r few a b =
      record {
        did = did_more (omega arith) (omega arith) (did_then a.did b.did);
        right = λ lit z.
            let v = a.right lit z in
            places_after B n h (cursor p l 15) (cursor w.passed w.left 14) c d w.head.block a.did.ops b.did.ops v.2 (v.3 15) c' ix' f' r (b.right v.0 v.1);
      }

  pub more_halted : (e : Halt) → Rooms B n h p l noise c f ix d g ix₁ (Err e) → Places (B - 2) (16 * (B - 2) + l) B n h 15 (cursor p l 15) noise c f ix d g ix₁ (Err e)
  unfolding did_more
  more_halted Dark a = record { did = did_more (omega arith) (omega arith) a.did; right = λ lit z. let w = a.right lit z in (w.0, w.1 15) }
  more_halted Dirty a = record { did = did_more (omega arith) (omega arith) a.did; right = λ lit z. a.right lit z }

-- the first sweep left the head full: then more
module _ (B n h x p : ℕ) (noise c : List ℕ) (f : ℕ) (ix d ix₁ : List ℕ) (g : ℕ) where
  pub place_more : (w : Place) (c' ix' : List ℕ) (f' : ℕ) (r : Result Place Halt) → 15 ≤ w.next → w.left ≤ 8 → Sweeps B n h x p 8 15 noise c f ix d g ix₁ (Ok w)
      → Places (B - 2) (16 * (B - 2) + w.left) B n h 15 (cursor w.passed w.left 15) noise d g ix₁ c' f' ix' r
      → Places (B - 2) (16 * (B - 2) + 16) B n h x (begin p) noise c f ix c' f' ix' r
  unfolding did_more did_then
  place_more w c' ix' f' r full few a b =
      record {
        did = did_more (omega arith) (omega arith) (did_then a.did b.did);
        right = λ lit z.
            let v = a.right lit z in
            let e : w.next ≡ 15 = omega (arith, v.0.ready.here, next_le (chip_of d) h 15) in
            places_after B n h (begin p) (cursor w.passed w.left 15) c d h a.did.ops b.did.ops v.0.map v.0.goes c' ix' f' r
            (b.right v.0.lit (subst (λ (i : ℕ). Ready B (chip_of d) h i (take n ix₁)) e v.0.ready));
      }
