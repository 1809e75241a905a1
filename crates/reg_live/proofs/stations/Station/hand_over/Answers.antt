use Rattle.std.proofs.Common.{rules}
use Rattle.reg_live.proofs.stations.Station.hand_over.Goals as goal

pub returns-clause-lists : goal.returns-clause-lists
returns-clause-lists g c = search rules
