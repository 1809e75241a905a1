use Rattle.std.proofs.Common.{rules}
use Rattle.reg_inputs.proofs.event_lines.event_of.Goals as goal

pub returns-in-Some-skip-clause-read : goal.returns-in-Some-skip-clause-read
returns-in-Some-skip-clause-read g c = search rules

pub returns-in-Some-skip-clause-whole : goal.returns-in-Some-skip-clause-whole
returns-in-Some-skip-clause-whole g c = search rules
