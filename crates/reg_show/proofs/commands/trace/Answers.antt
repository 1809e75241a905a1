use Rattle.std.specs.Io.KnownBytes.{Appends}
use Rattle.reg_text.specs.Writing.{AppendsPart}
use Rattle.reg_show.proofs.Written.{tells_run}
use Rattle.reg_show.proofs.commands.trace.Goals as goal

pub returns-clause-ok : goal.returns-clause-ok
returns-clause-ok g c =
    tells_run c.args.title.now (Appends (g.W.Write.contents c.args.writer.now) (g.W.Write.contents c.send.new.writer)) c.args.schedule c.in_ok-told.told.names c.as_slice.result.now c.in_ok-told.told.moments.items c.in_ok-told.told.history.entries c.in_ok-told.ensures.told c.as_slice.ensures.value c.in_ok-send.ensures

pub returns-in_err-send-clause-part : goal.returns-in_err-send-clause-part
returns-in_err-send-clause-part g c failed =
    tells_run c.args.title.now (AppendsPart (g.W.Write.contents c.args.writer.now) (g.W.Write.contents c.send.new.writer)) c.args.schedule c.in_ok-told.told.names c.as_slice.result.now c.in_ok-told.told.moments.items c.in_ok-told.told.history.entries c.in_ok-told.ensures.told c.as_slice.ensures.value c.in_err-send.ensures.1
