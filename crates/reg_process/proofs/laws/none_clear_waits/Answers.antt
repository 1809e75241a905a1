use Rattle.reg_process.proofs.Waiting.{step_keeps}
use Rattle.reg_process.proofs.laws.none_clear_waits.Goals as goal

pub returns-clause-first : goal.returns-clause-first
returns-clause-first c = λ me n registers d h k. h

pub returns-clause-kept : goal.returns-clause-kept
returns-clause-kept c = step_keeps
