use Rattle.std.proofs.Common.{rules}
use Rattle.reg_process.proofs.processes.Process.reuse.Goals as goal

pub returns : goal.returns
returns g c = search rules
