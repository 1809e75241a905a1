use Rattle.std.proofs.Common.{ℕ, List, refl, string_bytes, subst, sym}
use Rattle.std.proofs.lemmas.Result.{err_from_is_err_and}
use Rattle.reg_history.specs.Reports.{SpellsReport}
use Rattle.reg_judge.specs.Answers.{answer_text}
use Rattle.reg_judge.specs.Rulings.{found_in}
use Rattle.reg_judge.proofs.rulings.command.judged.Goals as goal

pub returns-in_err-judgement-clause-why : goal.returns-in_err-judgement-clause-why
returns-in_err-judgement-clause-why g c =
    let report = c.in_ok-report.report in
    let read : SpellsReport (string_bytes c.args.text) report = subst (λ (t : List ℕ). SpellsReport t report) c.as_str.ensures.value c.in_ok-report.ensures.read.0 in
    let p = err_from_is_err_and c.from_residual-in_err-judgement.result c.from_residual-in_err-judgement.ensures.1 in
    rw (p.1, p.2) (report, read)

pub returns-in_err-answer-clause-why : goal.returns-in_err-answer-clause-why
returns-in_err-answer-clause-why g c =
    let report = c.in_ok-report.report in
    let read : SpellsReport (string_bytes c.args.text) report = subst (λ (t : List ℕ). SpellsReport t report) c.as_str.ensures.value c.in_ok-report.ensures.read.0 in
    let p = err_from_is_err_and c.from_residual-in_err-answer.result c.from_residual-in_err-answer.ensures.1 in
    rw (p.1, p.2) (report, read)

pub returns-clause-ok : goal.returns-clause-ok
returns-clause-ok g c =
    let report = c.in_ok-report.report in
    let judgement = c.in_ok-judgement.judgement in
    record {
      report = report;
      read = subst (λ (t : List ℕ). SpellsReport t report) c.as_str.ensures.value c.in_ok-report.ensures.read.0;
      order = found_in judgement.sought;
      rulings = judgement.rulings.items;
      serial = judgement.serial;
      judged = c.in_ok-judgement.ensures.judged;
      says = sym c.has_order-found.ensures;
      written = (answer_text c.in_ok-answer.answer, c.in_ok-answer.ensures, refl);
    }
