use Rattle.reg_holdback.proofs.Ready.{ready_where_some, none_where_none}
use Rattle.reg_holdback.proofs.queue.Holdback.pop.Goals as goal

pub returns-clause-ready : goal.returns-clause-ready
returns-clause-ready g c = ready_where_some c.args.self.now c.pop_first_clear.result c.pop_first_clear.ensures.answer c.pop_first_clear.ensures.rising

pub returns-clause-none : goal.returns-clause-none
returns-clause-none g c = none_where_none c.args.self.now c.pop_first_clear.result c.pop_first_clear.ensures.answer c.pop_first_clear.ensures.rising
