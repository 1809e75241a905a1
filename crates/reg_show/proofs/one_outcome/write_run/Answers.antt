use Rattle.std.proofs.Common.{ap, subst}
use Rattle.std.specs.Io.KnownBytes.{Appends}
use Rattle.reg_text.specs.Writing.{AppendsPart}
use Rattle.reg_inputs.specs.Loads.{IsLoad, Load}
use Rattle.reg_show.proofs.Turned.{sends_run}
use Rattle.reg_show.proofs.one_outcome.write_run.Goals as goal

pub returns-clause-ok : goal.returns-clause-ok
returns-clause-ok g c =
    sends_run g.F.FrontEnd.start c.args.work.now c.args.outcome.now c.in_ok-world.world (Appends (g.W.Write.contents c.args.writer.now) (g.W.Write.contents c.send.new.writer))
    c.work.inside.shape c.work.inside.names c.work.inside.front c.accepted-events.result.now
    (ap (λ (w : Load). w.shape) c.work.view_is) (ap (λ (w : Load). w.names) c.work.view_is) (ap (λ (w : Load). w.front) c.work.view_is) c.accepted-events.ensures.value
    (subst IsLoad c.work.view_is c.work.invariant) c.in_ok-world.ensures.run c.accepted-events.ensures.all c.events_have_bits.ensures c.in_ok-send.ensures

pub returns-in_err-send-clause-part : goal.returns-in_err-send-clause-part
returns-in_err-send-clause-part g c failed =
    sends_run g.F.FrontEnd.start c.args.work.now c.args.outcome.now c.in_ok-world.world (AppendsPart (g.W.Write.contents c.args.writer.now) (g.W.Write.contents c.send.new.writer))
    c.work.inside.shape c.work.inside.names c.work.inside.front c.accepted-events.result.now
    (ap (λ (w : Load). w.shape) c.work.view_is) (ap (λ (w : Load). w.names) c.work.view_is) (ap (λ (w : Load). w.front) c.work.view_is) c.accepted-events.ensures.value
    (subst IsLoad c.work.view_is c.work.invariant) c.in_ok-world.ensures.run c.accepted-events.ensures.all c.events_have_bits.ensures c.in_err-send.ensures.1
