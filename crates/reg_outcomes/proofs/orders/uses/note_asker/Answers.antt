use Rattle.reg_outcomes.proofs.Losing.{asker_noted}
use Rattle.reg_outcomes.proofs.orders.uses.note_asker.Goals as goal

pub returns : goal.returns
returns g c = asker_noted c.args.finder.now.entries c.args.askers.now c.note_last.new.lasts (c.in-Answered.id.process, c.in-Some.value) c.in-Answered.id.number c.note_last.result c.in-Some.ensures c.note_last.ensures.only
