-- What `fill` makes: the payload stands in the first 254 bytes, and the count is set behind it. Assumes nothing.
use mathlib.Core.Path.{◌≡◌, refl, sym, ap, ap₂, ◌∙◌}
use mathlib.Core.List.{List, [], ◌∷◌, ◌++◌}
use Prim.Native.Nat.{ℕ, zero, suc, ◌+◌, ◌-◌, ◌/◌, ◌%◌, ◌≤◌}
use native.Mathlib.Omega.{arith}
use lib.ListN.{length, take, set}
use lib.Seq.{get_or-take, get_or-append-add, length-take-le}
use Rattle.page.specs.Page.{byte, Bare, ones_to, zero_bits, count_form}
use Rattle.page.proofs.Ones.{ones_same, ones_bare}

-- the last two of n + 2 bytes are set
last_two : (n : ℕ) (l : List ℕ) (x y : ℕ) → length l ≡ n + 2 → set (set l n x) (suc n) y ≡ take n l ++ (x ∷ y ∷ [])
last_two zero [] x y h = absurd (omega arith)
last_two zero (a ∷ []) x y h = absurd (omega arith)
last_two zero (a ∷ b ∷ []) x y h = refl
last_two zero (a ∷ b ∷ d ∷ l) x y h = absurd (omega arith)
last_two (suc n) [] x y h = absurd (omega arith)
last_two (suc n) (a ∷ l) x y h = ap (λ (m : List ℕ). a ∷ m) (last_two n l x y (omega arith))

module _ (pg : List ℕ) (h : length pg ≡ 256) where
  -- what is counted, in numbers of eight bytes, has the 1 bits of the payload
  pub fill_ones : (m : ℕ) → m ≤ 254 → Bare pg m → (n : ℕ) → m ≤ n → ones_to pg n ≡ ones_to (take 254 pg) 254
  fill_ones m l bare n k =
      ones_bare pg m bare n k ∙ sym (ones_bare pg m bare 254 l) ∙ ones_same pg (take 254 pg) 254 (λ i b. sym (get_or-take 254 pg i 0 b))

  pub fill_makes : (z x y : ℕ) → z ≡ zero_bits (take 254 pg) → x ≡ z / 256 → y ≡ z % 256 → set (set pg 254 x) 255 y ≡ count_form (take 254 pg)
  unfolding count_form
  fill_makes z x y e d f =
      last_two 254 pg x y h ∙ ap₂ (λ (a b : ℕ). take 254 pg ++ (a ∷ b ∷ [])) (d ∙ ap (λ (k : ℕ). k / 256) e) (f ∙ ap (λ (k : ℕ). k % 256) e)

  -- with zeros in the place of the count any payload will do
  pub two_zeros : Bare (set (set pg 254 0) 255 0) 254
  two_zeros = record { zeros = λ i l. ap (λ (p : List ℕ). byte p i) (last_two 254 pg 0 0 h) ∙ behind i l }
    where
      two : (j : ℕ) → byte (0 ∷ 0 ∷ []) j ≡ 0
      two zero = refl
      two (suc zero) = refl
      two (suc (suc j)) = refl

      behind : (i : ℕ) → 254 ≤ i → byte (take 254 pg ++ (0 ∷ 0 ∷ [])) i ≡ 0
      behind i l =
          let long : length (take 254 pg) ≡ 254 = length-take-le 254 pg (omega arith) in
          let at : length (take 254 pg) + (i - 254) ≡ i = omega arith in
          ap (λ (k : ℕ). byte (take 254 pg ++ (0 ∷ 0 ∷ [])) k) (sym at) ∙ get_or-append-add (take 254 pg) (0 ∷ 0 ∷ []) (i - 254) 0 ∙ two (i - 254)
