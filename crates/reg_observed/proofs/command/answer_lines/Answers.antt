use Rattle.std.proofs.Common.{sym}
use Rattle.reg_judge.proofs.Answering.{sent_as}
use Rattle.reg_observed.proofs.Answering.{judged_as}
use Rattle.reg_observed.proofs.command.answer_lines.Goals as goal

pub returns-clause-ok : goal.returns-clause-ok
returns-clause-ok g c =
    judged_as _ _ _ _ _ c.in_ok-judged.ensures (λ answer is. sent_as _ _ _ answer c.in_ok-write_text_or_report.ensures (sym is))
