-- `record::key_on` meets its contract. Assumes nothing.
use mathlib.Core.Path.{◌∙◌, ap}
use Prim.Native.Nat.{ℕ, min}
use Rattle.record.proofs.Fields.{key_on_lem}
use Rattle.record.proofs.key_on.Goals as goal

pub returns : goal.returns
returns c = key_on_lem c.args.page.now _ (c.min-n.ensures ∙ ap (λ (x : ℕ). min x 16) c.from.ensures)
