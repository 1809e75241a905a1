use Rattle.std.proofs.Common.{rules}
use Rattle.reg_links.proofs.outboxes.Outbox.starting.Goals as goal

pub returns : goal.returns
returns g c = search rules
