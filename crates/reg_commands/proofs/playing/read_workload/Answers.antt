use Rattle.std.proofs.Common.{rules}
use Rattle.reg_commands.proofs.playing.read_workload.Goals as goal

pub returns-in-Err : goal.returns-in-Err
returns-in-Err g c = search rules
