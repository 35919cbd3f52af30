-- `page::fill` meets its contract. Assumes nothing.
use mathlib.Core.Path.{◌≡◌, refl, ap}
use mathlib.Core.List.{List}
use Prim.Native.Nat.{ℕ, ◌+◌, ◌*◌, ◌/◌, ◌%◌, ◌≤◌}
use native.Mathlib.Omega.{arith}
use lib.ListN.{take}
use Rattle.page.specs.Page.{byte, ones_to, zero_bits}
use Rattle.page.proofs.Ones.{ones_most}
use Rattle.page.proofs.Filling.{fill_ones, fill_makes}
use Rattle.page.proofs.fill.Goals as goal

pub overflow_sub-zeros : goal.overflow_sub-zeros
overflow_sub-zeros c =
    let most : ones_to c.args.page.now 254 ≤ 8 * 254 = ones_most c.args.page.now (λ i. omega (arith, c.fits-page i)) 254 in
    omega (
      arith,
      fill_ones c.args.page.now c.told-page c.args.used c.requires.0 c.requires.1 (8 * ((c.args.used + 7) / 8)) (omega arith),
      fill_ones c.args.page.now c.told-page c.args.used c.requires.0 c.requires.1 254 c.requires.0,
    )

pub returns : goal.returns
returns c =
    let e = fill_ones c.args.page.now c.told-page c.args.used c.requires.0 c.requires.1 (8 * ((c.args.used + 7) / 8)) (omega arith) in
    let high : byte c.to_be_bytes.result 0 ≡ zero_bits (take 254 c.args.page.now) / 256 = omega (arith, ap (λ (l : List ℕ). byte l 0) c.to_be_bytes.ensures) in
    let low : byte c.to_be_bytes.result 1 ≡ zero_bits (take 254 c.args.page.now) % 256 = omega (arith, ap (λ (l : List ℕ). byte l 1) c.to_be_bytes.ensures) in
    fill_makes c.args.page.now c.told-page _ _ _ refl high low
