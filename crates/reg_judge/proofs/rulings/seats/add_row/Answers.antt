use Rattle.reg_judge.proofs.Seating.{call_stands}
use Rattle.reg_judge.proofs.rulings.seats.add_row.Goals as goal

pub returns-in-Call-clause-more : goal.returns-in-Call-clause-more
returns-in-Call-clause-more g c =
    call_stands c.add_call.result c.args.naming c.args.row.now c.args.seats.now.held.items c.add_call.new.seats.held.items c.args.history.now.entries c.add_call.new.history.entries c.in-Call.act c.in-Call.expected c.in-Call.value c.op_of.result c.in-Call.is c.op_of.ensures c.add_call.ensures.call
