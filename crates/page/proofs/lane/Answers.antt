-- `page::lane` meets its contract. Assumes nothing.
use native.Mathlib.Omega.{arith}
use Rattle.page.proofs.Adding.{lane_is, lane_most}
use Rattle.page.proofs.lane.Goals as goal

pub returns : goal.returns
returns c =
    let all =
    lane_is c.args.page.now c.args.a _ _ _ _ _ _ _ _ _ c.eight_at.ensures c.eight_at-2.ensures c.eight_at-3.ensures c.eight_at-4.ensures
    c.eight_at-5.ensures c.eight_at-6.ensures c.eight_at-7.ensures c.eight_at-8.ensures c.ones_of_eight.ensures in
    (all, omega (arith, all, lane_most c.args.page.now (λ i. omega (arith, c.fits-page i)) c.args.a))
