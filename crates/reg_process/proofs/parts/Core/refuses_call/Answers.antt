use Rattle.std.proofs.Common.{rules}
use Rattle.reg_process.proofs.parts.Core.refuses_call.Goals as goal

pub returns : goal.returns
returns g c = search rules

pub returns-then-is_busy : goal.returns-then-is_busy
returns-then-is_busy g c = search rules

pub returns-then-register-count : goal.returns-then-register-count
returns-then-register-count g c = search rules
