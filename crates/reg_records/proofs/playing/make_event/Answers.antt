use Rattle.std.proofs.Common.{◌∙◌, sym}
use Rattle.reg_records.proofs.Turns.{reply_made, fault_made, refused_fault}
use Rattle.reg_records.proofs.playing.make_event.Goals as goal

pub returns-in-Ok : goal.returns-in-Ok
returns-in-Ok g c =
    reply_made g.F.FrontEnd.start c.args.world.now c.args.process c.args.entry.now c.requires.going c.args.event.now c.step_reply.new.self c.is_same.result c.requires.step c.in-Ok.ensures.made.0
    ((λ t. sym c.in-Ok.ensures.made.1 ∙ c.is_same.ensures.0 t), (λ e. c.is_same.ensures.1 (c.in-Ok.ensures.made.1 ∙ e)))

pub returns-else-is_memory : goal.returns-else-is_memory
returns-else-is_memory g c =
    let off = refused_fault g.F.FrontEnd.start c.args.world.now c.step_reply.new.self c.args.event.now c.in-Err.fault c.in-Err.ensures.made (λ e. let t = c.is_memory.ensures.1 e in let f = c.if-is_memory.false in absurd cc) in
    fault_made g.F.FrontEnd.start c.args.world.now c.args.process c.args.entry.now c.requires.going c.args.event.now c.step_reply.new.self c.in-Err.fault c.requires.step off
