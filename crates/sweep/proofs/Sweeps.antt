-- One place after another. Assumes nothing.
use mathlib.Core.Path.{◌≡◌, refl, sym, ◌∙◌, subst}
use mathlib.Core.List.{List, ◌++◌}
use Prim.Native.Nat.{ℕ, ◌+◌, ◌-◌, ◌≤◌, ◌<◌}
use native.Mathlib.Numerals.{add-one}
use native.Mathlib.Omega.{arith}
use lib.ListN.{take}
use Rattle.chip.specs.Play.{Did}
use Rattle.chip.proofs.Plays.{did_none, did_more, did_then}
use Rattle.ring_log.specs.Ring.{chip_of, Ready}
use Rattle.ring_log.specs.Call.{resting, cursor, on, Looks}
use Rattle.ring_log.specs.Call as call
use Rattle.ring_log.proofs.Walk.{goes_none, goes_then, goes_ends}
use Rattle.std.specs.Prelude.{Result, Ok, Err}
use Rattle.chip.specs.declared.Halt.{Halt}
use Rattle.chip.specs.declared.Halt.TheVariants.{Dark, Dirty}
use Rattle.clean.specs.declared.Place.{Place}
use Rattle.sweep.specs.Steps.{Went, Passes, Sweeps}

-- SO FAR: the head has y pages, the cursor is at q, and m looks are left
pub record Sofar (B n h x p l top : ℕ) (noise c : List ℕ) (f : ℕ) (ix c' : List ℕ) (f' : ℕ) (ix' : List ℕ) (y q m : ℕ) : Type 0 where
  pub did : Did 0 (l - m) noise c f c' f'
  pub right : 0 < f → Ready B (chip_of c) h x (take n ix) → Went B n h (cursor p l top) (cursor q m top) c c' f' ix' did.ops y

module _ (B n h x p l top : ℕ) (noise c : List ℕ) (f : ℕ) (ix : List ℕ) where
  -- no place yet
  pub sofar_none : Sofar B n h x p l top noise c f ix c f ix x p l
  unfolding did_more did_none
  sofar_none =
      record {
        did = did_more (omega arith) (omega arith) (did_none c f);
        right = λ lit ready. record { lit = lit; ready = ready; map = refl; goes = goes_none B (cursor p l top) (resting (chip_of c) h) };
      }

  module _ (d ix₁ : List ℕ) (g y q m : ℕ) (a : Sofar B n h x p l top noise c f ix d g ix₁ y q m) where
    -- a place more
    module _ (some_left : 0 < m) (most : m ≤ l) (room : y < top) (zone : q < y + (B - 2)) (e ix₂ : List ℕ) (k : ℕ) where
      looks : Looks B (cursor q m top) y
      looks = record { some_left = some_left; room = room; zone = zone }

      pub sofar_on : (o : ℕ) → Passes B n h y q noise d g ix₁ e k ix₂ (Ok o) → Sofar B n h x p l top noise c f ix e k ix₂ o (q + 1) (m - 1)
      unfolding did_more did_then
      sofar_on o b =
          record {
            did = did_more (omega arith) (omega arith) (did_then a.did b.did);
            right = λ lit ready.
                let v = a.right lit ready in
                let w : Went B n h (cursor q m top) (on (cursor q m top)) d e k ix₂ b.did.ops o = b.right m top looks v.lit v.ready in
                record {
                  lit = w.lit;
                  ready = w.ready;
                  map = w.map ∙ v.map;
                  goes =
                      subst (λ (z : ℕ). call.Goes B (cursor p l top) (cursor z (m - 1) top) (resting (chip_of c) h) (resting (chip_of e) h) (a.did.ops ++ b.did.ops)) (sym (add-one q))
                      (goes_then B v.goes w.goes);
                };
          }

      -- it ended there
      pub sofar_halted : (w : Halt) → Passes B n h y q noise d g ix₁ e k ix₂ (Err w) → Sweeps B n h x p l top noise c f ix e k ix₂ (Err w)
      unfolding did_more did_then
      sofar_halted Dark b =
          record {
            did = did_more (omega arith) (omega arith) (did_then a.did b.did);
            right = λ lit ready.
                let v = a.right lit ready in
                let w = b.right m top looks v.lit v.ready in
                record { out = w.out; ends = goes_ends B v.goes w.ends };
          }
      sofar_halted Dirty b =
          record {
            did = did_more (omega arith) (omega arith) (did_then a.did b.did);
            right = λ lit ready. let v = a.right lit ready in b.right m top looks v.lit v.ready;
          }

  -- it ends here
  pub sofar_all : (d ix₁ : List ℕ) (g : ℕ) (w : Place) → Sofar B n h x p l top noise c f ix d g ix₁ w.next w.passed w.left → call.Swept B (cursor w.passed w.left top) w.next
      → Sweeps B n h x p l top noise c f ix d g ix₁ (Ok w)
  unfolding did_more
  sofar_all d ix₁ g w a z = record { did = did_more (omega arith) (omega arith) a.did; right = λ lit ready. (a.right lit ready, z) }

-- with n by the entries that there are then, and the noise by the chip that is lent then
pub passes_at : {B o n h x p : ℕ} {noise₁ noise c : List ℕ} {f : ℕ} {ix c' : List ℕ} {f' : ℕ} {ix' : List ℕ} {r : Result ℕ Halt} → o ≡ n → noise₁ ≡ noise
    → Passes B o h x p noise₁ c f ix c' f' ix' r → Passes B n h x p noise c f ix c' f' ix' r
passes_at {B} {o} {n} {h} {x} {p} {noise₁} {noise} {c} {f} {ix} {c'} {f'} {ix'} {r} e d a =
    subst (λ (v : ℕ). Passes B v h x p noise c f ix c' f' ix' r) e (subst (λ (v : List ℕ). Passes B o h x p v c f ix c' f' ix' r) d a)
