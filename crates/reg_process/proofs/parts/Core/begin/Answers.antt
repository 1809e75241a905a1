use Rattle.std.proofs.Common.{Some, length, sym, ap, subst, ◌∙◌}
use Rattle.std.specs.Prelude.{OnOk}
use Rattle.reg_front.specs.declared.starts.Start.{Start}
use Rattle.reg_process.specs.Process.{called}
use Rattle.reg_process.specs.Sending.{puts_of}
use Rattle.reg_process.specs.Faults.{full_at, is_cast}
use Rattle.reg_process.specs.Steps.{Goes}
use Rattle.reg_process.proofs.Calls.{looks, holds, room_at, stops_at, any_err}
use Rattle.reg_process.proofs.parts.Core.begin.Goals as goal

pub returns-in-Look-clause-goes : goal.returns-in-Look-clause-goes
returns-in-Look-clause-goes g c = looks c.args.self.now c.args.op c.args.start (puts_of c.say.new.self.sends) c.say.new.self.effect.cast c.say.new.self.effect.delivered.items c.say.new.self.effect.reply c.look-reply.new.self c.in-Look.is c.say.ensures.put c.say.ensures.made c.say.ensures.casts (c.say.ensures.answer ∙ ap Some c.look-reply.ensures.reply) c.look-reply.ensures.after

pub returns-in-Hold-clause-goes : goal.returns-in-Hold-clause-goes
returns-in-Hold-clause-goes g c = holds c.args.self.now c.args.op c.args.start (puts_of c.say-in-Hold.new.self.sends) c.say-in-Hold.new.self.effect.cast c.say-in-Hold.new.self.effect.delivered.items c.say-in-Hold.new.self.effect.reply c.hold.new.self c.in-Hold.is c.say-in-Hold.ensures.put c.say-in-Hold.ensures.made c.say-in-Hold.ensures.casts c.say-in-Hold.ensures.answer c.hold.ensures

pub returns-in-Cast-clause-goes : goal.returns-in-Cast-clause-goes
returns-in-Cast-clause-goes g c =
    subst (λ (st : Start). OnOk c.broadcast.result (Goes (length c.args.self.now.peers) (called c.args.self.now c.args.op st) (puts_of c.broadcast.new.brief.sends) c.broadcast.new.brief.effect.cast c.broadcast.new.brief.effect.delivered.items c.broadcast.new.brief.effect.reply c.broadcast.new.self)) (sym c.in-Cast.is) c.broadcast.ensures.goes

pub returns-in-Cast-clause-room : goal.returns-in-Cast-clause-room
returns-in-Cast-clause-room g c =
    room_at c.broadcast.result c.args.self.now.clock c.args.start (ap is_cast c.in-Cast.is) c.broadcast.ensures.room

pub returns-in-Cast-clause-fault : goal.returns-in-Cast-clause-fault
returns-in-Cast-clause-fault g c =
    stops_at c.broadcast.result c.args.self.now.clock c.args.start (ap is_cast c.in-Cast.is) c.broadcast.ensures.fault

pub returns-in-Cast-clause-memory : goal.returns-in-Cast-clause-memory
returns-in-Cast-clause-memory g c = any_err c.broadcast.result (ap is_cast c.in-Cast.is)

pub returns-in-CastAndAnswer-clause-goes : goal.returns-in-CastAndAnswer-clause-goes
returns-in-CastAndAnswer-clause-goes g c =
    subst (λ (st : Start). OnOk c.broadcast-in-CastAndAnswer.result (Goes (length c.args.self.now.peers) (called c.args.self.now c.args.op st) (puts_of c.broadcast-in-CastAndAnswer.new.brief.sends) c.broadcast-in-CastAndAnswer.new.brief.effect.cast c.broadcast-in-CastAndAnswer.new.brief.effect.delivered.items c.broadcast-in-CastAndAnswer.new.brief.effect.reply c.broadcast-in-CastAndAnswer.new.self)) (sym c.in-CastAndAnswer.is) c.broadcast-in-CastAndAnswer.ensures.goes

pub returns-in-CastAndAnswer-clause-room : goal.returns-in-CastAndAnswer-clause-room
returns-in-CastAndAnswer-clause-room g c = room_at c.broadcast-in-CastAndAnswer.result c.args.self.now.clock c.args.start (ap is_cast c.in-CastAndAnswer.is) c.broadcast-in-CastAndAnswer.ensures.room

pub returns-in-CastAndAnswer-clause-fault : goal.returns-in-CastAndAnswer-clause-fault
returns-in-CastAndAnswer-clause-fault g c = stops_at c.broadcast-in-CastAndAnswer.result c.args.self.now.clock c.args.start (ap is_cast c.in-CastAndAnswer.is) c.broadcast-in-CastAndAnswer.ensures.fault

pub returns-in-CastAndAnswer-clause-memory : goal.returns-in-CastAndAnswer-clause-memory
returns-in-CastAndAnswer-clause-memory g c =
    any_err c.broadcast-in-CastAndAnswer.result (ap is_cast c.in-CastAndAnswer.is)

pub returns-in-Look-clause-room : goal.returns-in-Look-clause-room
returns-in-Look-clause-room g c = ap (full_at c.args.self.now.clock) c.in-Look.is

pub returns-in-Look-clause-fault : goal.returns-in-Look-clause-fault
returns-in-Look-clause-fault g c = tt

pub returns-in-Look-clause-memory : goal.returns-in-Look-clause-memory
returns-in-Look-clause-memory g c = tt

pub returns-in-Hold-clause-room : goal.returns-in-Hold-clause-room
returns-in-Hold-clause-room g c = ap (full_at c.args.self.now.clock) c.in-Hold.is

pub returns-in-Hold-clause-fault : goal.returns-in-Hold-clause-fault
returns-in-Hold-clause-fault g c = tt

pub returns-in-Hold-clause-memory : goal.returns-in-Hold-clause-memory
returns-in-Hold-clause-memory g c = tt
