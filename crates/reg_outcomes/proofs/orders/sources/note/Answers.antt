use Rattle.reg_outcomes.proofs.Known.{maker_kept, maker_noted}
use Rattle.reg_outcomes.proofs.orders.sources.note.Goals as goal

pub returns-clause-noted : goal.returns-clause-noted
returns-clause-noted g c = maker_noted c.args.makers.now c.insert.new.self c.args.value c.with_maker-maker.result c.in_ok-insert.ensures.updates c.args.id c.with_maker-maker.ensures.here

pub returns-clause-kept : goal.returns-clause-kept
returns-clause-kept g c = maker_kept c.args.makers.now c.insert.new.self c.args.value c.with_maker-maker.result c.in_ok-insert.ensures.updates c.maker_at.result c.maker_at.ensures c.with_maker-maker.ensures.kept
