use Rattle.std.proofs.Common.{sym}
use Rattle.reg_judge.proofs.Answering.{judged_as, sent_as, sent_in_part}
use Rattle.reg_judge.proofs.rulings.command.JudgeReportTextCommand.answer.Goals as goal

pub returns-clause-ok : goal.returns-clause-ok
returns-clause-ok g c =
    judged_as _ _ _ _ _ c.in_ok-judged.ensures.ok (λ answer is. sent_as _ _ _ answer c.in_ok-write_text_or_report.ensures (sym is))

pub returns-in_err-write_text_or_report-clause-part : goal.returns-in_err-write_text_or_report-clause-part
returns-in_err-write_text_or_report-clause-part g c = λ _. (c.in_ok-judged.judged.0, judged_as _ _ _ _ _ c.in_ok-judged.ensures.ok (λ answer is. sent_in_part _ _ _ answer c.in_err-write_text_or_report.ensures.1 (sym is)))
