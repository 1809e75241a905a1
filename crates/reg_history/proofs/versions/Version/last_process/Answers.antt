use Rattle.std.proofs.Common.{sym, ap}
use Rattle.reg_history.specs.Versions.{most_processes}
use Rattle.reg_history.proofs.versions.Version.last_process.Goals as goal

pub returns-in-Two : goal.returns-in-Two
returns-in-Two c = sym (ap most_processes c.in-Two.is)

pub returns-in-Three : goal.returns-in-Three
returns-in-Three c = sym (ap most_processes c.in-Three.is)
