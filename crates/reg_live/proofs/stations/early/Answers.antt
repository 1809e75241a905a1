use Rattle.std.proofs.Common.{rules}
use Rattle.reg_live.proofs.stations.early.Goals as goal

pub returns : goal.returns
returns c = search rules

pub returns-then-length-floor : goal.returns-then-length-floor
returns-then-length-floor c = search rules

pub returns-then-from-registers : goal.returns-then-from-registers
returns-then-from-registers c = search rules
