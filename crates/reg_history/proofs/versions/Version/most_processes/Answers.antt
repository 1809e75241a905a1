use Rattle.std.proofs.Common.{sym, ap}
use Rattle.reg_history.specs.Versions.{most_processes}
use Rattle.reg_history.proofs.versions.Version.most_processes.Goals as goal

pub returns-in-One : goal.returns-in-One
returns-in-One c = sym (ap most_processes c.in-One.is)
