-- Key and value as parts of a page, of its beginning, and of the chip. Assumes nothing.
use mathlib.Core.Path.{◌≡◌, sym, ap, ◌∙◌}
use mathlib.Core.List.{List}
use Prim.Native.Nat.{ℕ, ◌+◌, ◌-◌, ◌*◌, ◌≤◌, min}
use native.Mathlib.Nat.{le_refl}
use native.Mathlib.Omega.{arith}
use lib.ListN.{length, take, drop, length-drop}
use lib.Seq.{take-take, drop-drop, get_or-take, length-take-le}
use Rattle.page.specs.Page.{byte}
use Rattle.chip.specs.Chip.{page_at, beginning}
use Rattle.chip.proofs.Splice.{part_early}
use Rattle.chip.proofs.Pages.{length_page}
use Rattle.record.specs.Record.{key_on, value_length, value_on, value_at}

module _ (pg : List ℕ) where
  -- the key, as the code takes it
  pub key_on_lem : (n : ℕ) → n ≡ min (byte pg 2) 16 → take (16 + n - 16) (drop 16 pg) ≡ key_on pg
  unfolding key_on
  key_on_lem n e =
      let d : 16 + n - 16 ≡ min (byte pg 2) 16 = omega (arith, e) in
      ap (λ (k : ℕ). take k (drop 16 pg)) d

  -- and the value
  pub value_on_lem : (n : ℕ) → n ≡ value_length pg → take (32 + n - 32) (drop 32 pg) ≡ value_on pg
  unfolding value_on
  value_on_lem n e =
      let d : 32 + n - 32 ≡ value_length pg = omega (arith, e) in
      ap (λ (k : ℕ). take k (drop 32 pg)) d

  -- the beginning of a page has its key, and the length of its value
  pub key_begins : key_on (beginning pg) ≡ key_on pg
  unfolding key_on beginning
  key_begins =
      ap (λ (x : ℕ). take (min x 16) (drop 16 (take 32 pg))) (get_or-take 32 pg 2 0 (omega arith))
      ∙ part_early (take 32 pg) pg 32 16 (min (byte pg 2) 16) (omega arith) (take-take 32 32 pg (le_refl 32))

  pub length_begins : value_length (beginning pg) ≡ value_length pg
  unfolding beginning
  length_begins = ap (λ (x : ℕ). min x 220) (get_or-take 32 pg 3 0 (omega arith))

-- the value on page p, as the code reads it
pub value_read : (c v : List ℕ) (p n : ℕ) → n ≡ value_length (page_at c p) → v ≡ take n (drop (256 * p + 32) c) → v ≡ value_at c p
unfolding page_at value_on
value_read c v p n e d =
    d ∙ ap (take n) (sym (drop-drop 32 (256 * p) c))
    ∙ sym (part_early (page_at c p) (drop (256 * p) c) 256 32 n (omega (arith, e)) (take-take 256 256 (drop (256 * p) c) (le_refl 256)))
    ∙ ap (λ (k : ℕ). take k (drop 32 (page_at c p))) e

-- it is as long as its page says
pub value_long : (c : List ℕ) (p : ℕ) → 256 * p + 256 ≤ length c → length (value_at c p) ≡ value_length (page_at c p)
unfolding value_on
value_long c p h = length-take-le (value_length (page_at c p)) (drop 32 (page_at c p)) (omega (arith, length-drop 32 (page_at c p), length_page c p h))
