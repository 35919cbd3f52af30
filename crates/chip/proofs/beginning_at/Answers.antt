-- `chip::beginning_at` meets its contract. Assumes nothing.
use mathlib.Core.Path.{sym, ◌∙◌}
use Prim.Native.Nat.{◌*◌}
use native.Mathlib.Omega.{arith}
use lib.ListN.{drop}
use lib.Seq.{take-take}
use Rattle.chip.specs.Chip.{beginning, page_at}
use Rattle.chip.proofs.beginning_at.Goals as goal

pub returns : goal.returns
unfolding beginning page_at
returns c =
    c.bytes_at.ensures ∙ sym (take-take 32 256 (drop (256 * c.args.p) c.args.chip.now) (omega arith))
