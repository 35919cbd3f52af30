use mathlib.Core.Path.{sym, ap, ◌∙◌}
use mathlib.Core.Bool.{not}
use native.Mathlib.Omega.{arith}
use Rattle.ring_log.specs.Ring.{chip_of, next_to}
use Rattle.ring.proofs.Scan.{next_full, next_blank, next_none}
use borrow.Author.Rules.{rules}
use Rattle.ring.proofs.find_next.Goals as goal

pub returns-then-not-blank_at : goal.returns-then-not-blank_at
returns-then-not-blank_at c = record { within = search rules; right = omega (arith, c.loop-j.invariant ∙ next_full (chip_of c.args.chip.now) c.args.h c.loop-j.j (omega arith) (ap not (sym c.blank_at.ensures ∙ c.if-not-blank_at.true))) }

pub loop-j-preserved : goal.loop-j-preserved
loop-j-preserved c = c.loop-j.invariant ∙ next_blank (chip_of c.args.chip.now) c.args.h c.loop-j.j (omega arith) (ap not (sym c.blank_at.ensures ∙ c.if-not-blank_at.false))

pub returns : goal.returns
returns c = record { within = search rules; right = sym (c.loop-j.invariant ∙ ap (next_to (chip_of c.args.chip.now) c.args.h) (omega arith) ∙ next_none (chip_of c.args.chip.now) c.args.h) }
