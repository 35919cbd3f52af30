-- `calls::Bench::put_often` keeps the lengths of what is lent, and lends the same still. Assumes nothing.
use Rattle.calls.specs.Lent.{KeepsLengths, LentStill}
use Rattle.calls.proofs.Bench.put_often.Given as goal

abbrev pub invariant-loop-i : goal.invariant-loop-i
invariant-loop-i l = KeepsLengths l.initial.self l.self × LentStill l.initial.self l.self
