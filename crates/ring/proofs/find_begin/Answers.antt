-- `ring::find_begin` meets its contract. Assumes nothing.
use mathlib.Core.Path.{sym, ap, ◌∙◌}
use Prim.Native.Nat.{ℕ, ◌+◌}
use native.Mathlib.Omega.{arith}
use borrow.Author.Tests.{not-true, not-false}
use Rattle.ring_log.specs.Ring.{chip_of, sealed}
use Rattle.ring.proofs.Scan.{counted_le, ones, begin_sealed, begin_later, begin_gap, begin_unblank, begin_first, begin_short}
use Rattle.ring.proofs.find_begin.Goals as goal

pub returns-then-h-seals : goal.returns-then-h-seals
returns-then-h-seals c = let k = chip_of c.args.chip.now in begin_sealed k c.args.seals.head.blocks (omega arith) c.args.seals.head.block c.args.seals.count c.args.seals.first c.requires.3.inside c.requires.3.is_head c.requires.3.is_first c.requires.3.all_of_them c.if-h-seals.true

pub overflow_add-seals : goal.overflow_add-seals
overflow_add-seals c = omega (arith, c.requires.3.all_of_them, counted_le (λ x. sealed (chip_of c.args.chip.now) x) c.args.seals.head.blocks)

pub returns-then-seals-b : goal.returns-then-seals-b
returns-then-seals-b c = let k = chip_of c.args.chip.now in begin_later k c.args.seals.head.blocks (omega arith) c.args.seals.head.block c.args.seals.count c.args.seals.first c.requires.3.inside c.requires.3.is_head c.requires.3.is_first c.requires.3.all_of_them c.if-h-seals.false _ _ _ c.spare-spare.ensures.0 c.spare-spare.ensures.1 c.sealed.ensures (ap (λ (n : ℕ). c.args.seals.head.blocks + n) (c.from.ensures ∙ ones _)) c.if-seals-b.true

pub returns-then-h-seals-2 : goal.returns-then-h-seals-2
returns-then-h-seals-2 c = let k = chip_of c.args.chip.now in begin_gap k c.args.seals.head.blocks (omega arith) c.args.seals.head.block c.args.seals.count c.args.seals.first c.requires.3.inside c.requires.3.is_head c.requires.3.is_first c.requires.3.all_of_them c.if-h-seals.false _ _ _ c.spare-spare.ensures.0 c.spare-spare.ensures.1 c.sealed.ensures (ap (λ (n : ℕ). c.args.seals.head.blocks + n) (c.from.ensures ∙ ones _)) c.if-seals-b.false c.if-h-seals-2.true

pub returns-then-not-blank_from : goal.returns-then-not-blank_from
returns-then-not-blank_from c = let k = chip_of c.args.chip.now in begin_unblank k c.args.seals.head.blocks (omega arith) c.args.seals.head.block c.args.seals.count c.args.seals.first c.requires.3.inside c.requires.3.is_head c.requires.3.is_first c.requires.3.all_of_them c.if-h-seals.false _ _ _ c.spare-spare.ensures.0 c.spare-spare.ensures.1 c.sealed.ensures (ap (λ (n : ℕ). c.args.seals.head.blocks + n) (c.from.ensures ∙ ones _)) c.if-seals-b.false c.if-h-seals-2.false (sym c.blank_from.ensures ∙ not-true _ c.if-not-blank_from.true-raw)

pub returns-then-h-b : goal.returns-then-h-b
returns-then-h-b c = let k = chip_of c.args.chip.now in begin_first k c.args.seals.head.blocks (omega arith) c.args.seals.head.block c.args.seals.count c.args.seals.first c.requires.3.inside c.requires.3.is_head c.requires.3.is_first c.requires.3.all_of_them c.if-h-seals.false _ _ _ c.spare-spare.ensures.0 c.spare-spare.ensures.1 c.sealed.ensures (ap (λ (n : ℕ). c.args.seals.head.blocks + n) (c.from.ensures ∙ ones _)) c.if-seals-b.false c.if-h-seals-2.false (omega arith) (sym c.blank_from.ensures ∙ not-false _ c.if-not-blank_from.false-raw)

pub returns-else-h-b : goal.returns-else-h-b
returns-else-h-b c = let k = chip_of c.args.chip.now in begin_short k c.args.seals.head.blocks (omega arith) c.args.seals.head.block c.args.seals.count c.args.seals.first c.requires.3.inside c.requires.3.is_head c.requires.3.is_first c.requires.3.all_of_them c.if-h-seals.false _ _ _ c.spare-spare.ensures.0 c.spare-spare.ensures.1 c.sealed.ensures (ap (λ (n : ℕ). c.args.seals.head.blocks + n) (c.from.ensures ∙ ones _)) c.if-seals-b.false c.if-h-seals-2.false (sym c.blank_from.ensures ∙ not-false _ c.if-not-blank_from.false-raw)
