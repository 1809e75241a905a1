use Rattle.std.proofs.Common.{ℕ, Option, MatchOption, sym, subst}
use Rattle.reg_checkers.specs.declared.facts.Given.{Given}
use Rattle.reg_checkers.specs.History.{IsAnswered, IsFinished}
use Rattle.reg_outcomes.specs.Losing.{Asks}
use Rattle.reg_outcomes.proofs.orders.uses.asked_by.Goals as goal

pub returns-in-Some-asked : goal.returns-in-Some-asked
returns-in-Some-asked g c =
    let h = c.args.finder.now.entries in
    let id = c.args.id in
    let fact = c.in-Some.fact in
    let given = c.in-Some-answered.given in
    let value = c.in-Some-asked.value in
    let of = c.in-Some.ensures.value in
    let answer : IsAnswered h id given.at given.answer = subst (λ (o : Option Given). MatchOption o (¬ IsFinished h id) (λ r. IsAnswered h id r.at r.answer)) c.in-Some-answered.is of.answered in
    let asks : Asks fact.op given.answer c.register.result value = subst (λ (r : ℕ). Asks fact.op given.answer r value) (sym c.register.ensures) c.in-Some-asked.ensures in
    (fact.op, fact.called, given.answer, given.at, of.called, answer, asks)
