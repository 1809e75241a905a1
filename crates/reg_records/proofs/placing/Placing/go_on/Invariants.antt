use Rattle.std.proofs.Common.{map}
use Rattle.reg_records.specs.Placing.{GoesOn}
use Rattle.reg_records.proofs.placing.Placing.go_on.Given as goal

abbrev pub invariant-loop-entry : goal.invariant-loop-entry
invariant-loop-entry g l = GoesOn g.F.FrontEnd.start (map (λ v. v.items) l.logs) l.fn.self l.self
