use Rattle.std.proofs.Common.{rules}
use Rattle.reg_history.proofs.reports.Report.front.Goals as goal

pub returns : goal.returns
returns g c = search rules
