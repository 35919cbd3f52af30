-- `page::flips` meets its contract. Assumes nothing.
use Prim.Native.Nat.{◌<◌}
use native.Mathlib.Omega.{arith}
use borrow.Author.Rules.{rules}
use borrow.Author.Tests.{eqb-true, eqb-false}
use Rattle.page.proofs.Forms.{flip_test}
use Rattle.page.proofs.flips.Goals as goal

pub returns : goal.returns
returns c =
    let small : c.args.x < 256 = search rules in
    flip_test c.args.x c.args.y _ (λ h. omega (arith, eqb-true)) (λ h q. omega (arith, eqb-false))
