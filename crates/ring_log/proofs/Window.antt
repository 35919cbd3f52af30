-- Two numbers less than B apart are equal when they leave the same rest modulo B; two places less than a chip apart lie on different pages.
-- Assumes nothing.
use mathlib.Core.Path.{◌≡◌, sym, ap, ◌∙◌}
use mathlib.Core.Logic.{◌≢◌, ◌⊎◌, inl, inr}
use Prim.Native.Nat.{ℕ, ◌+◌, ◌*◌, ◌/◌, ◌%◌, ◌≤◌, ◌<◌}
use native.Mathlib.Nat.{mul-le-mul_left, div-add-mod, mod-lt, mod-eq_of_lt, add-mod_left}
use native.Mathlib.Decide.{dec_lt}
use native.Mathlib.Omega.{arith}
use Rattle.ring_log.specs.Log.{page_of}

pub mod_window : (B x y : ℕ) → x ≤ y → y < x + B → x % B ≡ y % B → x ≡ y
mod_window B x y h k e = go (dec_lt (x / B) (y / B)) (dec_lt (y / B) (x / B))
  where
    go : Dec (x / B < y / B) → Dec (y / B < x / B) → x ≡ y
    go (yes a) d = absurd (omega (arith, mul-le-mul_left B a, div-add-mod x B, div-add-mod y B))
    go (no a) (yes b) = absurd (omega (arith, mul-le-mul_left B b, div-add-mod x B, div-add-mod y B))
    go (no a) (no b) =
        let q : x / B ≡ y / B = omega arith in
        sym (div-add-mod x B) ∙ rw (q, e) (div-add-mod y B)

-- the block of a place
pub page_block : (B s : ℕ) → page_of B s / 16 ≡ s / 15 % B
unfolding page_of
page_block B s = omega arith

-- its place in the block
pub page_place : (B s : ℕ) → page_of B s % 16 ≡ s % 15
unfolding page_of
page_place B s = omega arith

-- the place j of the block number x
pub page_at_lem : (B x j : ℕ) → j < 15 → page_of B (15 * x + j) ≡ 16 * (x % B) + j
unfolding page_of
page_at_lem B x j h =
    let d : (15 * x + j) / 15 ≡ x = omega arith in
    let m : (15 * x + j) % 15 ≡ j = omega arith in
    rw (d, m)

-- no place lies on the page of a seal
pub page_unsealed : (B s b : ℕ) → page_of B s ≢ 16 * b + 15
unfolding page_of
page_unsealed B s b e = omega arith

-- a place lies on the chip
pub page_lt : (B s : ℕ) → 0 < B → page_of B s < 16 * B
unfolding page_of
page_lt B s h = omega (arith, mod-lt (s / 15) h)

-- places less than a chip apart that lie on one page are one
pub page_inj : (B s t : ℕ) → s ≤ t → t < s + 15 * B → page_of B s ≡ page_of B t → s ≡ t
unfolding page_of
page_inj B s t h k e =
    let q : s / 15 ≡ t / 15 = mod_window B (s / 15) (t / 15) (omega arith) (omega arith) (omega arith) in
    omega arith

-- places of different blocks of the ring
pub block_ne : (B x y : ℕ) → x < y → y < x + B → x % B ≢ y % B
block_ne B x y h k e = omega (arith, mod_window B x y (omega arith) k e)

-- a whole ring further on, the pages are the same
pub page_round : (B s : ℕ) → page_of B (15 * B + s) ≡ page_of B s
unfolding page_of
page_round B s =
    let d : (15 * B + s) / 15 ≡ B + s / 15 = omega arith in
    let m : (15 * B + s) % 15 ≡ s % 15 = omega arith in
    ap (λ (x : ℕ). 16 * (x % B) + (15 * B + s) % 15) d
    ∙ ap (λ (x : ℕ). 16 * ((B + s / 15) % B) + x) m
    ∙ ap (λ (x : ℕ). 16 * x + s % 15) (add-mod_left B (s / 15))

-- the next block of the ring
pub spare_cases : (B h : ℕ) → h < B → ((h + 1 < B) × ((h + 1) % B ≡ h + 1)) ⊎ ((h + 1 ≡ B) × ((h + 1) % B ≡ 0))
spare_cases B h l = go (dec_lt (h + 1) B)
  where
    go : Dec (h + 1 < B) → ((h + 1 < B) × ((h + 1) % B ≡ h + 1)) ⊎ ((h + 1 ≡ B) × ((h + 1) % B ≡ 0))
    go (yes d) = inl (d, mod-eq_of_lt d)
    go (no d) =
        let e : h + 1 ≡ B = omega arith in
        inr (e, ap (λ (x : ℕ). x % B) (let z : h + 1 ≡ B + 0 = omega arith in z) ∙ add-mod_left B 0 ∙ mod-eq_of_lt (let z : 0 < B = omega arith in z))
