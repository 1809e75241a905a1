use Rattle.std.proofs.Common.{rules}
use Rattle.tellwydar.proofs.floors.read_from.Goals as goal

pub returns-clause-floor : goal.returns-clause-floor
returns-clause-floor g c = search rules
