use Rattle.std.proofs.Common.{◌∷◌, [], codes}
use Rattle.reg_trace.specs.Traces.{cast_text}
use Rattle.reg_text.proofs.Sent.{puts_three}
use Rattle.reg_trace.proofs.trace_text.put_delivery.Goals as goal

pub returns : goal.returns
returns g c =
    puts_three g.W.Write.contents c.args.sink.now c.put.new.self c.put_cast.new.sink c.put-2.new.self (codes "    delivers ") (cast_text c.args.names.now c.args.cast) (10 ∷ []) c.put.ensures c.put_cast.ensures c.put-2.ensures
