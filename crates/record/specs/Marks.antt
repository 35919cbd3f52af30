-- Byte 1 of a page that is written, by what the page is. Assumes nothing.
use Rattle.std.specs.Prelude.{ℕ}
use Rattle.record.specs.declared.Mark.{Mark}
use Rattle.record.specs.declared.Mark.TheVariants.{Value, Note, Seal}

abbrev pub mark_byte : Mark → ℕ
mark_byte Value = 1
mark_byte Note = 2
mark_byte Seal = 3
