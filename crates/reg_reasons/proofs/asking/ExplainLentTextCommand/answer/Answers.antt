use Rattle.std.proofs.Common.{ℕ, List, subst, ◌∙◌}
use Rattle.reg_reasons.specs.Records.{begins_record}
use Rattle.reg_reasons.specs.Lent.{TellsAnyLent}
use Rattle.reg_reasons.proofs.asking.ExplainLentTextCommand.answer.Goals as goal

pub returns-in_err-write_answer-clause-part : goal.returns-in_err-write_answer-clause-part
returns-in_err-write_answer-clause-part g c = λ _.
    let told = c.in_ok-told.told in
    let part = c.in_err-write_answer.ensures.1 in (
      told.is_accepted,
      (
        told.answer.items,
        subst (λ (xs : List ℕ). TellsAnyLent (begins_record xs) told.is_accepted told.answer.items xs) c.as_str.ensures.value c.in_ok-told.ensures.told,
        (part.0, part.1, part.2 ∙ c.as_slice.ensures.value, part.3),
      ),
    )
