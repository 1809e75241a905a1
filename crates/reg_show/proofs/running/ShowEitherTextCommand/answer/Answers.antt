use Rattle.std.proofs.Common.{ℕ, List, subst}
use Rattle.reg_show.specs.Showings.{Blames}
use Rattle.reg_show.proofs.running.ShowEitherTextCommand.answer.Goals as goal

pub returns-clause-why : goal.returns-clause-why
returns-clause-why g c =
    subst (λ (text : List ℕ). Blames c.args.self.view c.in-Err.fault text) c.as_str.ensures.value c.in-Err.ensures.why
