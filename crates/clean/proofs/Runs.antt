-- What is lent of the chip, step after step. Assumes nothing.
use mathlib.Core.Path.{◌≡◌, refl, ap, ◌∙◌}
use Rattle.chip.specs.Lent.{Same}
use Rattle.chip.specs.declared.Chip.{Chip}

-- it stays so
pub same_none : (d : Chip) → Same d d
same_none d = record { bytes = refl; size = refl; fuse = refl; noise = refl }

pub same_then : {d e g : Chip} → Same d e → Same e g → Same d g
same_then a b =
    record { bytes = b.bytes ∙ a.bytes; size = b.size ∙ a.size; fuse = b.fuse ∙ a.fuse; noise = b.noise ∙ a.noise }

pub same_noise : {d e : Chip} → Same d e → e.noise.now ≡ d.noise.now
same_noise a = ap (λ b. b.now) a.noise
