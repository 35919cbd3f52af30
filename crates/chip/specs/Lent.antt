-- WHAT A CALL IS LENT of the chip, and the two operations on it. Assumes nothing.
use Rattle.std.specs.Prelude.{true, false, List, ◌≡◌, ℕ, ◌<◌, ◌-◌, length, Result, Ok, Err}
use Rattle.chip.specs.Chip.{power, erased, written, blank_at}
use Rattle.chip.specs.declared.Chip.{Chip}
use Rattle.chip.specs.declared.Halt.{Halt}
use Rattle.chip.specs.declared.Halt.TheVariants.{Dark, Dirty}

-- it is lent the same still: the references are those that they were, and as long
pub record Same (d d' : Chip) : Type 0 where
  pub bytes : d'.bytes.ghost_name ≡ d.bytes.ghost_name
  pub size : length d'.bytes.now ≡ length d.bytes.now
  pub fuse : d'.fuse.ghost_name ≡ d.fuse.ghost_name
  pub noise : d'.noise ≡ d.noise

-- the power is on, or it has gone
abbrev pub Lit : ℕ → Result (Unit {0}) Halt → Type 0
Lit f (Ok u) = 0 < f
Lit f (Err Dark) = f ≡ 0
Lit f (Err Dirty) = ⊥

-- ERASED; then the power is on, or it has gone
pub record Erases (b : ℕ) (noise c : List ℕ) (f : ℕ) (c' : List ℕ) (f' : ℕ) (r : Result (Unit {0}) Halt) : Type 0 where
  pub chip : c' ≡ erased (power f) noise b c
  pub fuse : f' ≡ f - 1
  pub says : Lit f' r

-- WRITTEN, where the page was blank; then the power is on, or it has gone. Where it wasn't, nothing is done
abbrev pub WritesBy : ℕ → List ℕ → List ℕ → List ℕ → ℕ → List ℕ → ℕ → Result (Unit {0}) Halt → Type 0
WritesBy p new noise c f c' f' (Ok u) = (blank_at c p ≡ true) × (c' ≡ written (power f) noise p new c) × (f' ≡ f - 1) × (0 < f')
WritesBy p new noise c f c' f' (Err Dark) = (blank_at c p ≡ true) × (c' ≡ written (power f) noise p new c) × (f' ≡ f - 1) × (f' ≡ 0)
WritesBy p new noise c f c' f' (Err Dirty) = (blank_at c p ≡ false) × (c' ≡ c) × (f' ≡ f)

pub record Writes (p : ℕ) (new noise c : List ℕ) (f : ℕ) (c' : List ℕ) (f' : ℕ) (r : Result (Unit {0}) Halt) : Type 0 where
  pub says : WritesBy p new noise c f c' f' r
