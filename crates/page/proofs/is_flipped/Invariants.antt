-- `page::is_flipped` meets its contract. The invariant: `ok` says whether the pairs of bytes passed are flipped. Assumes nothing.
use mathlib.Core.Path.{◌≡◌}
use Prim.Native.Nat.{◌+◌}
use Rattle.page.specs.Page.{byte, all, flips}
use Rattle.page.proofs.is_flipped.Given as goal

abbrev pub invariant-loop-i : goal.invariant-loop-i
invariant-loop-i l = l.ok ≡ all (λ k. flips (byte l.page k) (byte l.page (128 + k))) l.i
