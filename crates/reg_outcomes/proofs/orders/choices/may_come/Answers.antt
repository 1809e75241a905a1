use Rattle.std.proofs.Common.{◌≡◌, ◌↔◌, IsTrue, Option, inl, inr, rules, sym, ◌∙◌, subst}
use Rattle.reg_checkers.specs.History.{IsAnswered, IsFinished}
use Rattle.reg_checkers.specs.declared.facts.Given.{Given}
use Rattle.reg_checkers.proofs.Histories.{answer_is}
use Rattle.reg_outcomes.proofs.NextAnswers.{IsAnswerTo}
use Rattle.reg_outcomes.proofs.orders.choices.may_come.Goals as goal

pub returns-in-Some : goal.returns-in-Some
returns-in-Some c n registers h id good of =
    let given = c.in-Some.given in
    let same : IsTrue c.eq.result ↔ (given.answer ≡ c.args.answer) = search rules in
    let is : IsAnswered h id given.at given.answer = subst (λ (o : Option Given). IsAnswerTo h id o) c.in-Some.is of.answered in (
      λ t. (λ at answer a. (answer_is n registers h good id at given.at answer given.answer a is).1 ∙ same.0 t, inl (given.at, given.answer, is)),
      λ may. same.1 (may.0 given.at given.answer is),
    )

pub returns-in-None : goal.returns-in-None
returns-in-None c n registers h id good of =
    let none : ¬ IsFinished h id = subst (λ (o : Option Given). IsAnswerTo h id o) c.in-None.is of.answered in (
      λ t. (λ at given a. absurd (none (at, given, a)), inr (sym c.updates.ensures ∙ t)),
      λ may. elim may.1 [ inl fin ↦ absurd (none fin) | inr up ↦ c.updates.ensures ∙ up ],
    )
