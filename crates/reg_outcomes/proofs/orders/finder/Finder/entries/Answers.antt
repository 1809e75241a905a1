use Rattle.std.proofs.Common.{subst}
use Rattle.reg_checkers.specs.History.{IsHistory}
use Rattle.reg_outcomes.specs.Sought.{Sought}
use Rattle.reg_outcomes.proofs.orders.finder.Finder.entries.Goals as goal

pub returns-clause-in_place : goal.returns-clause-in_place
returns-clause-in_place g c =
    subst (λ (s : Sought). IsHistory s.shape.processes s.shape.registers s.entries) c.self.view_is c.self.invariant.0
