-- What a page is: blank, sound, or spoilt, and then where (request 2 of document 02). Assumes nothing.
use Rattle.std.specs.Prelude.{◌≡◌, Bool, true, false, cond, List, ℕ, zero, suc, ◌+◌, ◌≤◌, ◌<◌, eqb}
use Rattle.page.specs.Page.{byte, all, flips, blank, sound}
use Rattle.page.specs.declared.Look.{Look}
use Rattle.page.specs.declared.Look.TheVariants.{Blank, Sound, Spoilt}

-- byte i and its copy agree
abbrev pub agree : List ℕ → ℕ → Bool
agree pg i = flips (byte pg i) (byte pg (128 + i))

-- the lowest number below n of which p does not hold; n if it holds of all
unfoldable pub lowest : (ℕ → Bool) → ℕ → ℕ
lowest p zero = zero
lowest p (suc n) = cond (all p n) (cond (p n) (suc n) n) (lowest p n)

-- the byte that is told of a spoilt page: where the count stands, if it claims form 2; else the lowest byte at which page and flipped copy disagree; and where
-- they agree, byte 0, which is neither 1 nor 2
abbrev pub or_first : ℕ → ℕ
or_first r = cond (eqb r 128) 0 r

unfoldable pub spoilt_at : List ℕ → ℕ
spoilt_at pg = cond (eqb (byte pg 0) 2) 254 (or_first (lowest (agree pg) 128))

-- blank; sound; or spoilt, and then where
unfoldable pub look_of : List ℕ → Look
look_of pg = cond (blank pg) Blank (cond (sound pg) Sound (Spoilt (spoilt_at pg)))

-- all bytes below r agree, and byte r does not, unless r is 128
pub record Apart (pg : List ℕ) (r : ℕ) : Type 0 where
  pub within : r ≤ 128
  pub below : all (agree pg) r ≡ true
  pub here : r < 128 → agree pg r ≡ false
