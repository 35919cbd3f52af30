-- `record::anew` meets its contract. Assumes nothing.
use mathlib.Core.Path.{ap₂, sym, ap, ◌∙◌}
use mathlib.Core.Bool.{true, false}
use mathlib.Core.List.{List, []}
use Prim.Native.Nat.{ℕ}
use native.Mathlib.Omega.{arith}
use lib.ListN.{length}
use Rattle.record.specs.Record.{record_of, record_page}
use Rattle.record.proofs.Copy.{key_on_short, value_on_short, anew_value, anew_note, anew_nothing}
use Rattle.record.proofs.anew.Goals as goal

pub encode-requires : goal.encode-requires
encode-requires c =
    (omega (arith, ap length c.key_on.ensures, key_on_short c.args.page.now c.told-page), omega (arith, ap length c.value_on.ensures, value_on_short c.args.page.now c.told-page))

pub encode-requires-in-Some-Note : goal.encode-requires-in-Some-Note
encode-requires-in-Some-Note c =
    (omega (arith, ap length c.key_on-in-Some-Note.ensures, key_on_short c.args.page.now c.told-page), omega (arith, ap length c.value_on-in-Some-Note.ensures, value_on_short c.args.page.now c.told-page))

pub returns-in-Some-Value : goal.returns-in-Some-Value
returns-in-Some-Value c =
    c.encode.ensures ∙ ap₂ (λ (k v : List ℕ). record_page (record_of false k v)) c.key_on.ensures c.value_on.ensures
    ∙ anew_value c.args.page.now (sym (rw c.in-Some-Value.field-0-is at c.in-Some-Value.ensures))

pub returns-in-Some-Note : goal.returns-in-Some-Note
returns-in-Some-Note c =
    c.encode-in-Some-Note.ensures ∙ ap (λ (k : List ℕ). record_page (record_of true k [])) c.key_on-in-Some-Note.ensures
    ∙ anew_note c.args.page.now (sym (rw c.in-Some-Note.field-0-is at c.in-Some-Note.ensures))

pub returns-in-None : goal.returns-in-None
returns-in-None c = anew_nothing c.args.page.now (sym c.in-None.ensures)
