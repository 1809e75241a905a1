use Rattle.reg_world.proofs.code.Stepping.{act_ok, enter_ok, advances}
use Rattle.reg_world.proofs.advancing.advance.Goals as goal

pub act-requires : goal.act-requires
act-requires g c =
    act_ok g.F.FrontEnd.start g.met.F.FrontEnd.lawful c.args.book.now c.args.members.now.items c.requires.world c.args.event c.args.moved.now.0 c.args.moved.now.1 c.requires.moves c.from.result c.index_mut-member.result.now c.from.ensures c.index_mut-member.ensures.value

pub enter-requires : goal.enter-requires
enter-requires g c =
    enter_ok g.F.FrontEnd.start g.met.F.FrontEnd.lawful c.args.book.now c.args.members.now.items c.requires.world c.args.event c.args.moved.now.0 c.args.moved.now.1 c.requires.moves c.from.result c.index_mut-member.result.now c.act.new.self c.act.new.brief.effect.cast c.act.new.brief.effect.delivered.items c.act.new.brief.effect.reply c.in_ok-runs.runs c.from.ensures c.index_mut-member.ensures.value c.in_ok-runs.ensures.made c.in_ok-runs.ensures.runs

pub returns-clause-made : goal.returns-clause-made
returns-clause-made g c =
    advances g.F.FrontEnd.start g.met.F.FrontEnd.lawful c.args.book.now c.args.members.now.items c.requires.world c.args.event c.args.moved.now.0 c.args.moved.now.1 c.requires.moves c.from.result c.index_mut-member.result.now c.act.new.self c.act.new.brief.effect.cast c.act.new.brief.effect.delivered.items c.act.new.brief.effect.reply c.in_ok-runs.runs c.from.ensures c.index_mut-member.ensures.value c.in_ok-runs.ensures.made c.in_ok-runs.ensures.runs c.enter.new.self c.in_ok-enter.ensures
