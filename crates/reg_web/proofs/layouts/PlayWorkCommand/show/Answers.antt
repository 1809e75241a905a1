use Rattle.reg_commands.proofs.Parts.{only_output}
use Rattle.reg_show.proofs.Shown.{if_sent}
use Rattle.reg_web.proofs.layouts.PlayWorkCommand.show.Goals as goal

pub returns-clause-ok : goal.returns-clause-ok
returns-clause-ok g c =
    if_sent _ _ c.write_out.result (λ written. record { report = c.in_ok-report.report; shown = c.in_ok-report.ensures.ok; written = written }) c.write_out.ensures

pub returns-clause-silent : goal.returns-clause-silent
returns-clause-silent g c = only_output _ _ _ c.write_out.result c.write_out.ensures
