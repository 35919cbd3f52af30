-- Three numbers added bit by bit are two, of which one counts twice; and the lanes of a page are all of it. Assumes nothing.
use mathlib.Core.Path.{◌≡◌, refl, ap, ap₂, ◌∙◌}
use mathlib.Core.List.{List}
use Prim.Native.Nat.{ℕ, zero, suc, ◌+◌, ◌*◌, ◌/◌, ◌%◌, ◌≤◌, ◌<◌}
use native.Mathlib.Nat.{not-suc-le-zero}
use native.Mathlib.Numerals.{add-one}
use native.Mathlib.Omega.{arith}
use lib.Arith.{half_le}
use lib.Bits.{bit_and, bit_or, bit_xor, and_shr, or_shr, xor_shr, and_mod, or_mod, xor_mod}
use lib.Count.{ones, ones_step, ones-le}
use Rattle.page.specs.Page.{byte, Bytes, ones_to}
use Rattle.page.specs.Lanes.{ones_at, ones_lane}
use Rattle.page.proofs.Ones.{ones_none, ones_more}

abbrev twice : ℕ → ℕ → ℕ → ℕ
twice a b c = bit_or (bit_and a b) (bit_and (bit_xor a b) c)

abbrev once : ℕ → ℕ → ℕ → ℕ
once a b c = bit_xor (bit_xor a b) c

-- bit by bit
twice_half : (a b c : ℕ) → twice a b c / 2 ≡ twice (a / 2) (b / 2) (c / 2)
twice_half a b c =
    or_shr (bit_and a b) (bit_and (bit_xor a b) c) 1
    ∙ ap₂ bit_or (and_shr a b 1) (and_shr (bit_xor a b) c 1 ∙ ap (λ (x : ℕ). bit_and x (c / 2)) (xor_shr a b 1))

twice_bit : (a b c : ℕ) → twice a b c % 2 ≡ twice (a % 2) (b % 2) (c % 2)
twice_bit a b c =
    or_mod (bit_and a b) (bit_and (bit_xor a b) c) 1
    ∙ ap₂ bit_or (and_mod a b 1) (and_mod (bit_xor a b) c 1 ∙ ap (λ (x : ℕ). bit_and x (c % 2)) (xor_mod a b 1))

once_half : (a b c : ℕ) → once a b c / 2 ≡ once (a / 2) (b / 2) (c / 2)
once_half a b c = xor_shr (bit_xor a b) c 1 ∙ ap (λ (x : ℕ). bit_xor x (c / 2)) (xor_shr a b 1)

once_bit : (a b c : ℕ) → once a b c % 2 ≡ once (a % 2) (b % 2) (c % 2)
once_bit a b c = xor_mod (bit_xor a b) c 1 ∙ ap (λ (x : ℕ). bit_xor x (c % 2)) (xor_mod a b 1)

-- three bits
bits : (x y z : ℕ) → x < 2 → y < 2 → z < 2 → 2 * twice x y z + once x y z ≡ x + y + z
bits zero zero zero p q r = refl
bits zero zero (suc zero) p q r = refl
bits zero zero (suc (suc z)) p q r = absurd (omega arith)
bits zero (suc zero) zero p q r = refl
bits zero (suc zero) (suc zero) p q r = refl
bits zero (suc zero) (suc (suc z)) p q r = absurd (omega arith)
bits zero (suc (suc y)) z p q r = absurd (omega arith)
bits (suc zero) zero zero p q r = refl
bits (suc zero) zero (suc zero) p q r = refl
bits (suc zero) zero (suc (suc z)) p q r = absurd (omega arith)
bits (suc zero) (suc zero) zero p q r = refl
bits (suc zero) (suc zero) (suc zero) p q r = refl
bits (suc zero) (suc zero) (suc (suc z)) p q r = absurd (omega arith)
bits (suc zero) (suc (suc y)) z p q r = absurd (omega arith)
bits (suc (suc x)) y z p q r = absurd (omega arith)

adds : (d a b c : ℕ) → a ≤ d → b ≤ d → c ≤ d → 2 * ones (twice a b c) + ones (once a b c) ≡ ones a + ones b + ones c
unfolding ones
adds zero zero zero zero p q r = refl
adds zero zero zero (suc c) p q r = absurd (not-suc-le-zero r)
adds zero zero (suc b) c p q r = absurd (not-suc-le-zero q)
adds zero (suc a) b c p q r = absurd (not-suc-le-zero p)
adds (suc d) a b c p q r =
    let t : ones (twice a b c) ≡ twice (a % 2) (b % 2) (c % 2) + ones (twice (a / 2) (b / 2) (c / 2)) =
    ones_step (twice a b c) ∙ ap₂ (λ (x y : ℕ). x + ones y) (twice_bit a b c) (twice_half a b c) in
    let o : ones (once a b c) ≡ once (a % 2) (b % 2) (c % 2) + ones (once (a / 2) (b / 2) (c / 2)) =
    ones_step (once a b c) ∙ ap₂ (λ (x y : ℕ). x + ones y) (once_bit a b c) (once_half a b c) in
    let low : 2 * twice (a % 2) (b % 2) (c % 2) + once (a % 2) (b % 2) (c % 2) ≡ a % 2 + b % 2 + c % 2 =
    bits (a % 2) (b % 2) (c % 2) (omega arith) (omega arith) (omega arith) in
    let rest : 2 * ones (twice (a / 2) (b / 2) (c / 2)) + ones (once (a / 2) (b / 2) (c / 2)) ≡ ones (a / 2) + ones (b / 2) + ones (c / 2) =
    adds d (a / 2) (b / 2) (c / 2) (half_le p) (half_le q) (half_le r) in
    omega (arith, ones_step a, ones_step b, ones_step c)

pub add_three : (a b c t o : ℕ) → t ≡ twice a b c → o ≡ once a b c → 2 * ones t + ones o ≡ ones a + ones b + ones c
add_three a b c t o e d =
    omega (arith, ap ones e, ap ones d, adds (a + b + c) a b c (omega arith) (omega arith) (omega arith))

-- eight numbers
pub add_eight : (a b c d e f g h t o u p v q x y r : ℕ) → t ≡ twice a b c → o ≡ once a b c → u ≡ twice d e f → p ≡ once d e f → v ≡ twice o p g → q ≡ once o p g
    → x ≡ twice t u v → y ≡ once t u v → r ≡ 4 * ones x + 2 * ones y + ones q + ones h
    → r ≡ ones a + ones b + ones c + ones d + ones e + ones f + ones g + ones h
add_eight a b c d e f g h t o u p v q x y r et eo eu ep ev eq ex ey er =
    sum (add_three a b c t o et eo) (add_three d e f u p eu ep) (add_three o p g v q ev eq) (add_three t u v x y ex ey) er
  where
    sum : 2 * ones t + ones o ≡ ones a + ones b + ones c → 2 * ones u + ones p ≡ ones d + ones e + ones f → 2 * ones v + ones q ≡ ones o + ones p + ones g
        → 2 * ones x + ones y ≡ ones t + ones u + ones v → r ≡ 4 * ones x + 2 * ones y + ones q + ones h
        → r ≡ ones a + ones b + ones c + ones d + ones e + ones f + ones g + ones h
    sum i j k l m = omega arith

-- ---- THE LANES
module _ (pg : List ℕ) where
  -- the 1 bits of the first j
  unfoldable pub lanes_to : ℕ → ℕ
  lanes_to zero = zero
  lanes_to (suc j) = lanes_to j + ones_lane pg (8 * j)

  pub lanes_none : 0 ≡ lanes_to 0
  unfolding lanes_to
  lanes_none = refl

  pub lanes_more : (j n r : ℕ) → n ≡ lanes_to j → r ≡ ones_lane pg (8 * j) → n + r ≡ lanes_to (j + 1)
  unfolding lanes_to
  lanes_more j n r e d = rw (e, d, add-one)

  at_most : Bytes pg → (a : ℕ) → ones_at pg a ≤ 64
  unfolding ones_at
  at_most b a =
      omega (
        arith,
        ones-le 8 (byte pg a) (b a),
        ones-le 8 (byte pg (a + 1)) (b (a + 1)),
        ones-le 8 (byte pg (a + 2)) (b (a + 2)),
        ones-le 8 (byte pg (a + 3)) (b (a + 3)),
        ones-le 8 (byte pg (a + 4)) (b (a + 4)),
        ones-le 8 (byte pg (a + 5)) (b (a + 5)),
        ones-le 8 (byte pg (a + 6)) (b (a + 6)),
        ones-le 8 (byte pg (a + 7)) (b (a + 7)),
      )

  pub lane_is : (a p q r s t u v w n : ℕ) → ones p ≡ ones_at pg a → ones q ≡ ones_at pg (a + 32) → ones r ≡ ones_at pg (a + 64) → ones s ≡ ones_at pg (a + 96)
      → ones t ≡ ones_at pg (a + 128) → ones u ≡ ones_at pg (a + 160) → ones v ≡ ones_at pg (a + 192) → ones w ≡ ones_at pg (a + 224)
      → n ≡ ones p + ones q + ones r + ones s + ones t + ones u + ones v + ones w → n ≡ ones_lane pg a
  unfolding ones_lane
  lane_is a p q r s t u v w n e0 e1 e2 e3 e4 e5 e6 e7 e = omega arith

  pub lane_most : Bytes pg → (a : ℕ) → ones_lane pg a ≤ 512
  unfolding ones_lane
  lane_most b a =
      omega
      (arith, at_most b a, at_most b (a + 32), at_most b (a + 64), at_most b (a + 96), at_most b (a + 128), at_most b (a + 160), at_most b (a + 192), at_most b (a + 224))

  -- eight bytes more
  pub ones_up : (a : ℕ) → ones_to pg (a + 8) ≡ ones_to pg a + ones_at pg a
  unfolding ones_at
  ones_up a = more 7 (more 6 (more 5 (more 4 (more 3 (more 2 (more 1 (ones_more pg a))))))) ∙ omega arith
    where
      more : (i : ℕ) {s : ℕ} → ones_to pg (a + i) ≡ s → ones_to pg (a + (i + 1)) ≡ s + ones (byte pg (a + i))
      more i {s} h = ap (ones_to pg) (let k : a + (i + 1) ≡ a + i + 1 = omega arith in k) ∙ ones_more pg (a + i) ∙ ap (λ (x : ℕ). x + ones (byte pg (a + i))) h

  -- a row of the lanes
  row : (a : ℕ) → ones_to pg (a + 32) ≡ ones_to pg a + (ones_at pg a + ones_at pg (a + 8) + ones_at pg (a + 16) + ones_at pg (a + 24))
  row a = next 24 (next 16 (next 8 (ones_up a))) ∙ omega arith
    where
      next : (i : ℕ) {s : ℕ} → ones_to pg (a + i) ≡ s → ones_to pg (a + (i + 8)) ≡ s + ones_at pg (a + i)
      next i {s} h = ap (ones_to pg) (let k : a + (i + 8) ≡ a + i + 8 = omega arith in k) ∙ ones_up (a + i) ∙ ap (λ (x : ℕ). x + ones_at pg (a + i)) h

  -- all four lanes have the 1 bits of the page
  pub lanes_all : lanes_to 4 ≡ ones_to pg 256
  unfolding lanes_to ones_lane
  lanes_all = omega (arith, ones_none pg, row 0, row 32, row 64, row 96, row 128, row 160, row 192, row 224)
