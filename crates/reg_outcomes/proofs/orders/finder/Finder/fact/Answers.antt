use Rattle.std.proofs.Common.{MatchOption, ap, ◌∙◌, subst}
use Rattle.reg_checkers.specs.Facts.{IsFactOf}
use Rattle.reg_checkers.specs.History.{IsHistory, WasCalled}
use Rattle.reg_checkers.specs.Table.{Rows, cell}
use Rattle.reg_outcomes.specs.Sought.{Sought}
use Rattle.reg_outcomes.proofs.NextAnswers.{fact_found}
use Rattle.reg_outcomes.proofs.orders.finder.Finder.fact.Goals as goal

pub returns-clause-value : goal.returns-clause-value
returns-clause-value g c =
    let i = c.self.inside in
    let is = c.fact_of.ensures ∙ ap (λ (rows : Rows g.row.A.Denot). cell rows c.args.id) c.deref.ensures.value in
    subst (λ (s : Sought). MatchOption c.fact_of.result (¬ WasCalled s.entries c.args.id) (IsFactOf s.entries c.args.id)) c.self.view_is
    (fact_found i.facts.items i.history.now.entries c.args.id c.fact_of.result c.self.invariant.1 is)

pub returns-clause-in_place : goal.returns-clause-in_place
returns-clause-in_place g c =
    subst (λ (s : Sought). IsHistory s.shape.processes s.shape.registers s.entries) c.self.view_is c.self.invariant.0
