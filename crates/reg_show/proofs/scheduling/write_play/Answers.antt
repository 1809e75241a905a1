use Rattle.std.proofs.Common.{ap, subst}
use Rattle.std.specs.Io.KnownBytes.{Appends}
use Rattle.reg_text.specs.Writing.{AppendsPart}
use Rattle.reg_inputs.specs.Loads.{Load, IsLoad}
use Rattle.reg_show.proofs.Accepted.{shows_schedule}
use Rattle.reg_show.proofs.scheduling.write_play.Goals as goal

pub returns-clause-ok : goal.returns-clause-ok
returns-clause-ok g c =
    shows_schedule c.args.fair g.F.FrontEnd.start c.args.work.now c.in_ok-play.play.world c.in_ok-play.play.finished (Appends (g.W.Write.contents c.args.writer.now) (g.W.Write.contents c.send.new.writer))
    c.work.inside.shape c.work.inside.names c.work.inside.front c.accepted-events.result.now
    (ap (λ (w : Load). w.shape) c.work.view_is) (ap (λ (w : Load). w.names) c.work.view_is) (ap (λ (w : Load). w.front) c.work.view_is) c.accepted-events.ensures.value
    (subst IsLoad c.work.view_is c.work.invariant) c.in_ok-play.ensures c.accepted-events.ensures.all c.events_have_bits.ensures c.in_ok-send.ensures

pub returns-in_err-send-clause-part : goal.returns-in_err-send-clause-part
returns-in_err-send-clause-part g c failed =
    shows_schedule c.args.fair g.F.FrontEnd.start c.args.work.now c.in_ok-play.play.world c.in_ok-play.play.finished (AppendsPart (g.W.Write.contents c.args.writer.now) (g.W.Write.contents c.send.new.writer))
    c.work.inside.shape c.work.inside.names c.work.inside.front c.accepted-events.result.now
    (ap (λ (w : Load). w.shape) c.work.view_is) (ap (λ (w : Load). w.names) c.work.view_is) (ap (λ (w : Load). w.front) c.work.view_is) c.accepted-events.ensures.value
    (subst IsLoad c.work.view_is c.work.invariant) c.in_ok-play.ensures c.accepted-events.ensures.all c.events_have_bits.ensures c.in_err-send.ensures.1
