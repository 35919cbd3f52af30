-- The 1 bits of numbers, and of a page's bytes. Assumes nothing.
use mathlib.Core.Path.{◌≡◌, refl, sym, ap, ap₂, ◌∙◌}
use mathlib.Core.List.{List}
use mathlib.Core.Logic.{⊎_elim}
use Prim.Native.Nat.{ℕ, zero, suc, ◌+◌, ◌*◌, ◌/◌, ◌%◌, ◌^◌, ◌≤◌, ◌<◌, max}
use native.Mathlib.Nat.{add_comm, mul_comm, le_refl, le-max_left, max-le, eq-or-lt_of_le, le_of_suc-le-suc}
use native.Mathlib.Numerals.{add-one}
use native.Mathlib.Omega.{arith}
use lib.ListN.{take, drop}
use lib.Seq.{get_or-take, get_or-drop}
use lib.Arith.{half_le}
use lib.Bits.{bit_or, or_step, or_zero_r}
use lib.Count.{ones, ones_step, ones_cat, ones-le}
use Rattle.page.specs.Page.{byte, Bytes, Bare, ones_to}

-- ---- NOISE: x or n has the 1 bits of x, and is x if it has no more
pub record Gains (x y : ℕ) : Type 0 where
  pub more : ones x ≤ ones y
  pub same : ones y ≡ ones x → y ≡ x

gains : (d x n : ℕ) → n ≤ d → Gains x (bit_or x n)
gains zero x n h =
    let e : bit_or x n ≡ x = ap (bit_or x) (let z : n ≡ 0 = omega arith in z) ∙ or_zero_r x in
    record { more = omega (arith, ap ones e); same = λ q. e }
gains (suc d) x n h =
    let o : ℕ = bit_or (x / 2) (n / 2) in
    let m : ℕ = max (x % 2) (n % 2) in
    let least : x % 2 ≤ m = le-max_left (x % 2) (n % 2) in
    let most : m ≤ 1 = max-le (omega arith) (omega arith) in
    let e : bit_or x n ≡ o * 2 + m = or_step x n in
    let half : bit_or x n / 2 ≡ o = omega arith in
    let odd : bit_or x n % 2 ≡ m = omega arith in
    let all : ones (bit_or x n) ≡ m + ones o = ones_step (bit_or x n) ∙ ap₂ (λ (a b : ℕ). a + ones b) odd half in
    let mine : ones x ≡ x % 2 + ones (x / 2) = ones_step x in
    let rest : Gains (x / 2) o = gains d (x / 2) (n / 2) (half_le h) in
    let least-rest : ones (x / 2) ≤ ones o = rest.more in
    record {
      more = omega arith;
      same = λ q.
          let high : o ≡ x / 2 = rest.same (omega arith) in
          omega arith;
    }

pub or_gains : (x n : ℕ) → Gains x (bit_or x n)
or_gains x n = gains n x n (le_refl n)

-- ---- OF A PAGE
module _ (pg : List ℕ) where
  pub ones_none : 0 ≡ ones_to pg 0
  unfolding ones_to
  ones_none = refl

  pub ones_more : (n : ℕ) → ones_to pg (n + 1) ≡ ones_to pg n + ones (byte pg n)
  unfolding ones_to
  ones_more n = ap (ones_to pg) (add-one n)

  -- at most eight to a byte
  pub ones_most : Bytes pg → (n : ℕ) → ones_to pg n ≤ 8 * n
  unfolding ones_to
  ones_most b zero = omega arith
  ones_most b (suc n) = omega (arith, ones_most b n, ones-le 8 (byte pg n) (b n))

  -- of all 256 bytes, and of the first 254
  pub ones_last : ones_to pg 256 ≡ ones_to pg 254 + ones (byte pg 254) + ones (byte pg 255)
  ones_last = omega (arith, ones_more 254, ones_more 255)

  -- none where there are zeros
  pub ones_bare : (m : ℕ) → Bare pg m → (n : ℕ) → m ≤ n → ones_to pg n ≡ ones_to pg m
  unfolding ones_to ones
  ones_bare m h zero l = let z : 0 ≡ m = omega arith in ap (ones_to pg) z
  ones_bare m h (suc n) l =
      ⊎_elim (λ e. ap (ones_to pg) (sym e))
      (λ k. let j : m ≤ n = le_of_suc-le-suc k in omega (arith, ones_bare m h n j, ap ones (h.zeros n j)))
      (eq-or-lt_of_le l)

-- of two pages that have the same first n bytes
pub ones_same : (pg qg : List ℕ) (n : ℕ) → ((i : ℕ) → i < n → byte pg i ≡ byte qg i) → ones_to pg n ≡ ones_to qg n
unfolding ones_to
ones_same pg qg zero h = refl
ones_same pg qg (suc n) h = ap₂ (λ (a b : ℕ). a + ones b) (ones_same pg qg n (λ i l. h i (omega arith))) (h n (omega arith))

-- ---- FOUR BYTES AND EIGHT AS ONE NUMBER
-- two numbers beside each other, of k bits the low one
pub ones_beside : (k high low n : ℕ) → low < 2 ^ k → n ≡ low + 2 ^ k * high → ones n ≡ ones high + ones low
ones_beside k high low n l e = ap ones (e ∙ swap) ∙ ones_cat k high low l
  where
    swap : low + 2 ^ k * high ≡ high * 2 ^ k + low
    swap = add_comm low (2 ^ k * high) ∙ ap (λ (x : ℕ). x + low) (mul_comm (2 ^ k) high)

pub ones_four : (a b c d n : ℕ) → a < 256 → b < 256 → c < 256 → n ≡ a + 256 * b + 65536 * c + 16777216 * d → ones n ≡ ones a + ones b + ones c + ones d
ones_four a b c d n la lb lc e =
    let all : ones n ≡ ones (b + 256 * (c + 256 * d)) + ones a = ones_beside 8 (b + 256 * (c + 256 * d)) a n la (omega arith) in
    let three : ones (b + 256 * (c + 256 * d)) ≡ ones (c + 256 * d) + ones b = ones_beside 8 (c + 256 * d) b _ lb refl in
    let two : ones (c + 256 * d) ≡ ones d + ones c = ones_beside 8 d c _ lc refl in
    omega arith

-- a byte of a part of a list
pub byte_part : (l : List ℕ) (a n i : ℕ) → i < n → byte (take n (drop a l)) i ≡ byte l (a + i)
byte_part l a n i h = get_or-take n (drop a l) i 0 h ∙ get_or-drop a l i 0

pub ones_eight : (a b c d e f g h n : ℕ) → a < 256 → b < 256 → c < 256 → d < 256 → e < 256 → f < 256 → g < 256
    → n ≡ a + b * 256 + c * 65536 + d * 16777216 + e * 4294967296 + f * 1099511627776 + g * 281474976710656 + h * 72057594037927936
    → ones n ≡ ones a + ones b + ones c + ones d + ones e + ones f + ones g + ones h
ones_eight a b c d e f g h n la lb lc ld le lf lg q =
    let low : ℕ = a + 256 * b + 65536 * c + 16777216 * d in
    let high : ℕ = e + 256 * f + 65536 * g + 16777216 * h in
    let first : ones low ≡ ones a + ones b + ones c + ones d = ones_four a b c d low la lb lc refl in
    let last : ones high ≡ ones e + ones f + ones g + ones h = ones_four e f g h high le lf lg refl in
    let both : ones n ≡ ones high + ones low = ones_beside 32 high low n (omega arith) (omega arith) in
    omega arith
