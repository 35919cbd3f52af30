-- How `encode` lays out a page: fields put over zeros, one after the other. Assumes nothing.
use mathlib.Core.Path.{◌≡◌, refl, sym, ap, ◌∙◌}
use mathlib.Core.Bool.{Bool, true, false}
use mathlib.Core.List.{List, [], ◌∷◌, ◌++◌, append_assoc}
use Prim.Native.Nat.{ℕ, zero, suc, ◌+◌, ◌-◌, ◌≤◌}
use native.Mathlib.Omega.{arith}
use lib.ListN.{length, take, drop, replicate, length-append, length-replicate, replicate-append-replicate}
use lib.Seq.{get_or-append-add, take_at, drop_at, drop-append-add}
use Rattle.page.specs.Page.{byte, Bare}
use Rattle.chip.specs.Chip.{splice}
use Rattle.record.specs.Record.{pad, payload, new_page, record_of, record_page}

abbrev zeros : ℕ → List ℕ
zeros n = replicate n 0

byte_zeros : (n i : ℕ) → byte (zeros n) i ≡ 0
byte_zeros zero i = refl
byte_zeros (suc n) zero = refl
byte_zeros (suc n) (suc i) = byte_zeros n i

-- a field of n bytes is laid over zeros, behind p
lay : (p xs : List ℕ) (a n m : ℕ) → length p ≡ a → length xs ≤ n → splice (p ++ zeros (n + m)) a xs ≡ (p ++ pad n xs) ++ zeros m
unfolding splice pad
lay p xs a n m la lx =
    let k : ℕ = length xs in
    let sum : n + m ≡ k + (n - k + m) = omega arith in
    let rest : List ℕ = zeros (n - k) ++ zeros m in
    let split : zeros (n + m) ≡ zeros k ++ rest =
    ap zeros sum ∙ sym (replicate-append-replicate k (n - k + m) 0) ∙ ap (λ (l : List ℕ). zeros k ++ l) (sym (replicate-append-replicate (n - k) m 0)) in
    let after : drop (a + k) (p ++ zeros (n + m)) ≡ rest =
    ap (λ (j : ℕ). drop (j + k) (p ++ zeros (n + m))) (sym la) ∙ drop-append-add p (zeros (n + m)) k ∙ ap (drop k) split
    ∙ drop_at (zeros k) rest k (length-replicate k 0) in
    ap (λ (l : List ℕ). l ++ (xs ++ drop (a + k) (p ++ zeros (n + m)))) (take_at p (zeros (n + m)) a la) ∙ ap (λ (l : List ℕ). p ++ (xs ++ l)) after
    ∙ simp append_assoc

pub length_pad : (n : ℕ) (xs : List ℕ) → length xs ≤ n → length (pad n xs) ≡ n
unfolding pad
length_pad n xs h = length-append xs _ ∙ simp length-replicate (omega arith)

-- the page of `page_of`, before the count is set: the payload, and two zeros
module _ (kind : ℕ) (key value l : List ℕ) (hk : length key ≤ 16) (hv : length value ≤ 220)
    (e : l ≡ splice (splice (2 ∷ kind ∷ length key ∷ length value ∷ zeros 252) 16 key) 32 value) where
  heading : List ℕ
  heading = 2 ∷ kind ∷ length key ∷ length value ∷ zeros 12

  before : List ℕ
  before = heading ++ pad 16 key

  length_before : length before ≡ 32
  unfolding before heading
  length_before = omega (arith, length-append heading (pad 16 key), length_pad 16 key hk)

  all : l ≡ (before ++ pad 222 value) ++ zeros 2
  unfolding before heading
  all = e ∙ ap (λ (x : List ℕ). splice x 32 value) (lay heading key 16 16 224 refl hk) ∙ lay before value 32 222 2 length_before (omega arith)

  pub laid : take 254 l ≡ payload 2 222 kind key value
  unfolding payload before heading
  laid =
      let m : length (before ++ pad 222 value) ≡ 254 = omega (arith, length-append before (pad 222 value), length_before, length_pad 222 value (omega arith)) in
      ap (take 254) all ∙ take_at (before ++ pad 222 value) (zeros 2) 254 m ∙ append_assoc heading (pad 16 key) (pad 222 value)

  -- behind the value there are zeros
  pub laid_bare : Bare l (32 + length value)
  unfolding pad
  laid_bare =
      record {
        zeros = λ i h.
            let j : ℕ = i - (32 + length value) in
            let split : l ≡ (before ++ value) ++ (zeros (222 - length value) ++ zeros 2) = all ∙ simp append_assoc in
            let n : length (before ++ value) + j ≡ i = omega (arith, length-append before value, length_before) in
            ap (λ (x : List ℕ). byte x i) split ∙ ap (byte ((before ++ value) ++ (zeros (222 - length value) ++ zeros 2))) (sym n)
            ∙ get_or-append-add (before ++ value) _ j 0 ∙ ap (λ (x : List ℕ). byte x j) (replicate-append-replicate (222 - length value) 2 0)
            ∙ byte_zeros (222 - length value + 2) j;
      }

-- the two kinds of record
pub page_note : (note : Bool) (key value : List ℕ) → note ≡ true → new_page 2 key [] ≡ record_page (record_of note key value)
unfolding record_page
page_note note key value e = rw e

pub page_value : (note : Bool) (key value : List ℕ) → note ≡ false → new_page 1 key value ≡ record_page (record_of note key value)
unfolding record_page
page_value note key value e = rw e
