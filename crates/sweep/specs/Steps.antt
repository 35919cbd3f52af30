-- Places of the log are looked at, one after another: what each function did to the chip, and where the index is the one that start made (`Ready`), what that
-- was to the ring and to the call (`Goes`, `Ends`: crates/ring_log/specs/Call.antt). Assumes nothing.
use Rattle.std.specs.Prelude.{◌≡◌, List, ℕ, ◌<◌, take, Result, Ok, Err}
use Rattle.chip.specs.Play.{Op, Did}
use Rattle.ring_log.specs.Ring.{chip_of, map_of, Ready}
use Rattle.ring_log.specs.Call.{resting, Cursor, cursor, on, Looks, Goes, Ends}
use Rattle.ring_log.specs.Call as call
use Rattle.chip.specs.declared.Halt.{Halt}
use Rattle.chip.specs.declared.Halt.TheVariants.{Dark, Dirty}
use Rattle.clean.specs.declared.Place.{Place}

-- the cursor went from u to v: memory is ready, with x pages of the head, and the map is the one of before
pub record Went (B n h : ℕ) (u v : Cursor) (c c' : List ℕ) (f' : ℕ) (ix' : List ℕ) (ops : List Op) (x : ℕ) : Type 0 where
  pub lit : 0 < f'
  pub ready : Ready B (chip_of c') h x (take n ix')
  pub map : map_of B (chip_of c') ≡ map_of B (chip_of c)
  pub goes : Goes B u v (resting (chip_of c) h) (resting (chip_of c') h) ops

-- the power went before it was there
pub record Stopped (B h : ℕ) (u : Cursor) (c c' : List ℕ) (f' : ℕ) (ops : List Op) : Type 0 where
  pub out : f' ≡ 0
  pub ends : Ends B u (resting (chip_of c) h) (chip_of c') ops

-- ---- ONE PLACE: the cursor is on by one, and the head has m pages; or the power went
abbrev pub PassesBy : ℕ → ℕ → ℕ → Cursor → List ℕ → List ℕ → ℕ → List ℕ → List Op → Result ℕ Halt → Type 0
PassesBy B n h u c c' f' ix' ops (Ok m) = Went B n h u (on u) c c' f' ix' ops m
PassesBy B n h u c c' f' ix' ops (Err Dark) = Stopped B h u c c' f' ops
PassesBy B n h u c c' f' ix' ops (Err Dirty) = ⊥

-- that at the cursor p, where the head has x pages
pub record Passes (B n h x p : ℕ) (noise c : List ℕ) (f : ℕ) (ix c' : List ℕ) (f' : ℕ) (ix' : List ℕ) (r : Result ℕ Halt) : Type 0 where
  pub did : Did 0 1 noise c f c' f'
  pub right : (l top : ℕ) → Looks B (cursor p l top) x → 0 < f → Ready B (chip_of c) h x (take n ix) → PassesBy B n h (cursor p l top) c c' f' ix' did.ops r

-- ---- A SWEEP: no place is left to look at; or the power went. It is never stuck
abbrev pub SweepsBy : ℕ → ℕ → ℕ → ℕ → ℕ → ℕ → List ℕ → List ℕ → ℕ → List ℕ → List Op → Result Place Halt → Type 0
SweepsBy B n h p l top c c' f' ix' ops (Ok w) =
    Went B n h (cursor p l top) (cursor w.passed w.left top) c c' f' ix' ops w.next × call.Swept B (cursor w.passed w.left top) w.next
SweepsBy B n h p l top c c' f' ix' ops (Err Dark) = Stopped B h (cursor p l top) c c' f' ops
SweepsBy B n h p l top c c' f' ix' ops (Err Dirty) = ⊥

-- from the cursor p, with l looks, where the head has x pages and may have top
pub record Sweeps (B n h x p l top : ℕ) (noise c : List ℕ) (f : ℕ) (ix c' : List ℕ) (f' : ℕ) (ix' : List ℕ) (r : Result Place Halt) : Type 0 where
  pub did : Did 0 l noise c f c' f'
  pub right : 0 < f → Ready B (chip_of c) h x (take n ix) → SweepsBy B n h p l top c c' f' ix' did.ops r
