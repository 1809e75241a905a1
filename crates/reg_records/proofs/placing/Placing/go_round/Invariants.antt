use Rattle.std.proofs.Common.{map}
use Rattle.reg_records.specs.Placing.{GoesOn}
use Rattle.reg_records.proofs.placing.Placing.go_round.Given as goal

abbrev pub invariant-loop-process : goal.invariant-loop-process
invariant-loop-process g l = GoesOn g.F.FrontEnd.start (map (λ v. v.items) l.logs) l.fn.self l.self
