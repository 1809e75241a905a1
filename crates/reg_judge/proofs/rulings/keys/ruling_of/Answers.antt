use Rattle.reg_judge.proofs.Keying.{ruled_not}
use Rattle.reg_judge.proofs.rulings.keys.ruling_of.Goals as goal

pub returns-in-Ok-None : goal.returns-in-Ok-None
returns-in-Ok-None g c =
    let found = rw c.in-Ok-None.field-0-is at c.in-Ok-None.ensures in
    ruled_not c.args.history.now.shape.registers c.args.history.now.entries c.in-Ok-None.place c.event_at.result c.requires found c.event_at.ensures
