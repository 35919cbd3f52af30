-- CHIPS OF VERSION 0.9.0, from before request 3 of document 02: what their pages said. Nothing here mentions code. Assumes nothing.
use Rattle.std.specs.Prelude.{Bool, cond, ◌&&◌, List, ℕ, take, drop, eqb, leb}
use Rattle.std.proofs.Math.Option.{Option, none, some}
use Rattle.page.specs.Page.{byte, flipped}
use Rattle.record.specs.Record.{Rec}

-- bytes 0 to 3 were those of a value; of a note
abbrev pub was_value : ℕ → ℕ → ℕ → ℕ → Bool
was_value form kind klen vlen = eqb form 1 && eqb kind 1 && leb 1 klen && leb klen 16 && leb vlen 96

abbrev pub was_note : ℕ → ℕ → ℕ → ℕ → Bool
was_note form kind klen vlen = eqb form 1 && eqb kind 2 && leb 1 klen && leb klen 16 && eqb vlen 0

-- WHAT A PAGE SAID: nothing, unless its second half was the flipped copy of the first, and it decoded
unfoldable pub said_of : List ℕ → Option Rec
said_of pg =
    cond (flipped pg)
    (cond (was_value (byte pg 0) (byte pg 1) (byte pg 2) (byte pg 3))
    (some (record { key = take (byte pg 2) (drop 16 pg); what = some (take (byte pg 3) (drop 32 pg)) }))
    (cond (was_note (byte pg 0) (byte pg 1) (byte pg 2) (byte pg 3)) (some (record { key = take (byte pg 2) (drop 16 pg); what = none })) none))
    none
