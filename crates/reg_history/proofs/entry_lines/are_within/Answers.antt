use Rattle.std.proofs.Common.{rules}
use Rattle.reg_history.proofs.entry_lines.are_within.Goals as goal

pub returns-then-process-last_process : goal.returns-then-process-last_process
returns-then-process-last_process c = search rules
