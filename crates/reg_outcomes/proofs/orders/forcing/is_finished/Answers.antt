use Rattle.std.proofs.Common.{sym, ◌∙◌}
use Rattle.reg_outcomes.proofs.NextAnswers.{has_answer}
use Rattle.reg_outcomes.proofs.orders.forcing.is_finished.Goals as goal

pub returns-in-Some : goal.returns-in-Some
returns-in-Some g c = λ t. has_answer c.args.finder.now.entries c.args.id c.in-Some.fact.answered c.in-Some.ensures.value.answered (sym c.is_some.ensures ∙ t)
