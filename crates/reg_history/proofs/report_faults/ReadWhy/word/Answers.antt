use Rattle.std.proofs.Common.{rules}
use Rattle.reg_history.proofs.report_faults.ReadWhy.word.Goals as goal

pub returns-in-Place : goal.returns-in-Place
returns-in-Place c = search rules
