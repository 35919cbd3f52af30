-- The noises that the programs cut with: byte by byte, and by name.
use Rattle.std.specs.Prelude.{◌≡◌, ℕ, ◌/◌, ◌%◌, ◌==◌, List, ◌≢◌, Result, MatchResult, if◌then◌else◌, slice_index, codes}
use Rattle.trying.specs.declared.noise.Noise.{Noise}
use Rattle.trying.specs.declared.noise.Noise.TheVariants.{Zeros, Ones, Mixed, Forged, Kept}
use Rattle.trying.specs.declared.noise.Unnamed.{Unnamed}

-- Byte i of the noise, by the page.
abbrev pub noise_byte : Noise → List ℕ → ℕ → ℕ
noise_byte Zeros page i = 0
noise_byte Ones page i = 255
noise_byte Mixed page i = i % 251
noise_byte Forged page i = slice_index page (i % 256)
noise_byte Kept page i = if (i / 256) == 1 then slice_index page (i % 256) else 255

abbrev pub noise_name : Noise → List ℕ
noise_name Zeros = codes "zeros"
noise_name Ones = codes "ones"
noise_name Mixed = codes "mixed"
noise_name Forged = codes "forged"
noise_name Kept = codes "kept"

-- The result is the noise of that name.
abbrev pub Names : List ℕ → Result Noise Unnamed → Type 0
Names name r = MatchResult r (λ noise. noise_name noise ≡ name) (λ _. (noise : Noise) → noise_name noise ≢ name)
