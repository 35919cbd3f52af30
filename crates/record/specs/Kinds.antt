-- The code's answer to what kind of thing a page says. Assumes nothing.
use Rattle.std.proofs.Math.Option.{Option, none, some}
use Rattle.std.specs.Prelude.{List, ℕ}
use Rattle.std.specs.Prelude.{Option as Answer}
use Rattle.std.specs.Prelude.{None, Some}
use Rattle.record.specs.Record.{Rec}
use Rattle.record.specs.declared.Kind.{Kind}
use Rattle.record.specs.declared.Kind.TheVariants.{Value, Note}

abbrev pub kind_of_what : Option (List ℕ) → Kind
kind_of_what (some v) = Value
kind_of_what none = Note

-- nothing, a value or a note
unfoldable pub kind_of : Option Rec → Answer Kind
kind_of none = None
kind_of (some r) = Some (kind_of_what r.what)
