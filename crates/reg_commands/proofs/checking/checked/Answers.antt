use Rattle.reg_commands.proofs.Parts.{judged_text}
use Rattle.reg_commands.proofs.checking.checked.Goals as goal

pub returns-clause-ok : goal.returns-clause-ok
returns-clause-ok g c = judged_text _ _ _ _ c.as_str.ensures.value c.in_ok-report.ensures.read c.in_ok-judge.ensures
