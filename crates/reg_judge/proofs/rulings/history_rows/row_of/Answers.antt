use Rattle.std.proofs.Common.{refl, sym, ◌∙◌, subst}
use Rattle.reg_checkers.specs.declared.entries.Entry.{Entry}
use Rattle.reg_judge.specs.Reported.{IsRowOf}
use Rattle.reg_judge.specs.declared.rulings.rows.Step.TheVariants.{Answer}
use Rattle.reg_judge.proofs.rulings.history_rows.row_of.Goals as goal

pub returns-in_ok-register-in-Answered : goal.returns-in_ok-register-in-Answered
returns-in_ok-register-in-Answered g c = λ h table.
    let r = c.in_ok-register-in-Answered.ensures h table in
    subst (λ (e : Entry). IsRowOf h e (record { at = c.in-Answered.at; process = c.from-in-Answered.result; key = c.from-in-Answered-2.result; step = Answer c.in-Answered.answer })) (sym c.in-Answered.is)
    (refl, c.from-in-Answered.ensures, (r.0, r.1, r.2, c.from-in-Answered-2.ensures ∙ r.3), refl)
