use Rattle.std.proofs.Common.{◌∷◌, ◌++◌, []}
use Rattle.reg_text.specs.Lines.{text_of}
use Rattle.reg_text.proofs.Sent.{puts_two}
use Rattle.reg_trace.specs.Traces.{copy_lines, delivers_line}
use Rattle.reg_trace.proofs.trace_text.put_delivered.Goals as goal

pub returns : goal.returns
returns g c =
    puts_two g.W.Write.contents c.args.sink.now c.put_delivery.new.sink c.put_copy.new.sink (delivers_line c.args.names.now c.args.delivery.cast ++ 10 ∷ []) (text_of (copy_lines c.args.names.now c.args.delivery)) c.put_delivery.ensures c.put_copy.ensures
