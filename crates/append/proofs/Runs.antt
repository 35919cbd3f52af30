-- What a record's write did; buffers; ranges. Assumes nothing.
use mathlib.Core.Path.{◌≡◌}
use mathlib.Core.Bool.{Bool, true, false}
use mathlib.Core.List.{List}
use Prim.Native.Nat.{ℕ, ◌+◌, ◌*◌, ◌≤◌}
use native.Mathlib.Omega.{arith}
use lib.ListN.{length}
use Rattle.page.specs.Page.{Bytes}
use Rattle.chip.specs.Chip.{blank_at}
use Rattle.chip.specs.Play.{Writable}
use Rattle.record.specs.Record.{Rec, Proper, record_of, record_page}
use Rattle.record.proofs.Trip.{record_length, record_bytes}
use Rattle.append.specs.Steps.{Keyed}

-- the record of a call is one that may be written
pub proper_of : (note : Bool) (key value : List ℕ) → Keyed key value → Bytes key → Bytes value → Proper (record_of note key value)
proper_of true key value k b v =
    record { some_key = k.some_key; short_key = k.short_key; short_value = omega arith; key_bytes = b; value_bytes = λ i. omega arith }
proper_of false key value k b v =
    record { some_key = k.some_key; short_key = k.short_key; short_value = k.short_value; key_bytes = b; value_bytes = v }

-- a page that may be written with it
pub record_writable : (c : List ℕ) (p : ℕ) → 256 * p + 256 ≤ length c → blank_at c p ≡ true → (r : Rec) → Proper r → Writable p (record_page r) c
record_writable c p h b r q = record { inside = h; blank = b; size = record_length r q; bytes = record_bytes r q }
