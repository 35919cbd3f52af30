-- For the reader of docs/FAULTS.md: after an erase that was cut short the block is the noise, so any bytes whatever can stand there.
-- No layer above uses this: nothing there rests on what a cut erase leaves in its block. Assumes nothing.
use mathlib.Core.Path.{◌≡◌, sym, ap, ◌∙◌}
use mathlib.Core.List.{List}
use Prim.Native.Nat.{ℕ, ◌+◌, ◌*◌, ◌≤◌}
use native.Mathlib.Omega.{arith}
use lib.ListN.{length, take, drop}
use lib.Seq.{take_all}
use Rattle.page.proofs.Cut.{each_second}
use Rattle.chip.specs.Chip.{goes, block_at, news, splice, erased}
use Rattle.chip.proofs.Splice.{splice_part}
use Rattle.chip.proofs.Power.{length_part}

-- ANY 4,096 BYTES: the block is the noise, whatever it was
pub erased_cut : (noise : List ℕ) (b : ℕ) (c : List ℕ) → length noise ≡ 4096 → 4096 * b + 4096 ≤ length c → block_at (erased goes noise b c) b ≡ noise
unfolding erased block_at
erased_cut noise b c n h =
    let k : length (take 4096 (drop (4096 * b) c)) ≡ 4096 = length_part (4096 * b) 4096 c h in
    let z : 4096 * b + 0 ≡ 4096 * b = omega arith in
    let e : news (take 4096 (drop (4096 * b) c)) noise ≡ noise = each_second _ noise (k ∙ sym n) in
    ap (λ (l : List ℕ). take 4096 (drop (4096 * b) (splice c (4096 * b) l))) e ∙ ap (λ (a : ℕ). take 4096 (drop a (splice c (4096 * b) noise))) (sym z)
    ∙ splice_part c (4096 * b) noise 0 4096 (omega arith) (omega arith) ∙ take_all 4096 noise (omega arith)
