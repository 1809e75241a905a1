use Rattle.std.proofs.Common.{replicate}
use Rattle.reg_text.specs.Writing.{Puts}
use Rattle.reg_outcomes.proofs.tables.text.put_spaces.Given as goal

-- so many so far
abbrev pub invariant-loop : goal.invariant-loop
invariant-loop g l = Puts g.W.Write.contents l.initial.sink l.sink (replicate l.counter 32)
