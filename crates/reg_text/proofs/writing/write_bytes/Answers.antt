use Rattle.std.proofs.Common.{rules}
use Rattle.std.proofs.lemmas.List.{take_rest}
use Rattle.reg_text.proofs.Sent.{more_sent}
use Rattle.reg_text.proofs.writing.write_bytes.Goals as goal

pub loop-preserved : goal.loop-preserved
loop-preserved g c =
    let held = g.W.Write.contents in
    more_sent (held c.args.writer.now) (held c.loop.writer) (held c.write.new.self) c.in-Ok.count c.loop.rest.now _ c.args.bytes.now c.loop.invariant (search rules) (take_rest c.loop.rest.now c.in-Ok.count)
