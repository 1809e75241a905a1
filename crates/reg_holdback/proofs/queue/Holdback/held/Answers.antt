use Rattle.std.proofs.Common.{rules}
use Rattle.reg_holdback.proofs.queue.Holdback.held.Goals as goal

pub returns : goal.returns
returns g c = search rules
