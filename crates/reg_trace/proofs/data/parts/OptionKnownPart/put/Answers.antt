use Rattle.std.proofs.Common.{rules}
use Rattle.reg_trace.proofs.data.parts.OptionKnownPart.put.Goals as goal

pub returns-in-Some : goal.returns-in-Some
returns-in-Some g c = search rules
