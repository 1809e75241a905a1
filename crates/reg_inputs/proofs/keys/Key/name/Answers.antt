use Rattle.std.proofs.Common.{rules}
use Rattle.reg_inputs.proofs.keys.Key.name.Goals as goal

pub returns-in-Repeat : goal.returns-in-Repeat
returns-in-Repeat c = search rules
