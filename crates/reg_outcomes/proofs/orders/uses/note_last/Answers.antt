use Rattle.reg_outcomes.proofs.Losing.{put_kept, put_noted, put_only}
use Rattle.reg_outcomes.proofs.orders.uses.note_last.Goals as goal

pub returns-clause-noted : goal.returns-clause-noted
returns-clause-noted g c = put_noted c.args.lasts.now c.insert.new.self c.args.key c.args.number c.later_of-later.result c.in_ok-insert.ensures.updates c.last_of.result c.last_of.ensures c.later_of-later.ensures.number

pub returns-clause-kept : goal.returns-clause-kept
returns-clause-kept g c = put_kept c.args.lasts.now c.insert.new.self c.args.key c.args.number c.later_of-later.result c.in_ok-insert.ensures.updates c.last_of.result c.last_of.ensures c.later_of-later.ensures.above

pub returns-clause-only : goal.returns-clause-only
returns-clause-only g c = put_only c.args.lasts.now c.insert.new.self c.args.key c.args.number c.later_of-later.result c.in_ok-insert.ensures.updates c.last_of.result c.last_of.ensures c.later_of-later.ensures.one_of
