-- What a seal did to the chip. Assumes nothing.
use mathlib.Core.Path.{◌≡◌}
use mathlib.Core.Bool.{true}
use mathlib.Core.List.{List}
use Prim.Native.Nat.{ℕ, ◌+◌, ◌-◌, ◌*◌, ◌≤◌}
use lib.ListN.{length}
use Rattle.chip.specs.Chip.{blank_at}
use Rattle.chip.specs.Play.{Writable}
use Rattle.record.specs.Record.{seal_page}
use Rattle.record.proofs.Trip.{seal_length, seal_bytes}

module _ (noise c c' : List ℕ) (f f' p : ℕ) (h : 256 * p + 256 ≤ length c) (b : blank_at c p ≡ true) (g : f' ≡ f - 1) where
  -- the page that a seal may be written to
  pub seal_writable : Writable p seal_page c
  seal_writable = record { inside = h; blank = b; size = seal_length; bytes = seal_bytes }
