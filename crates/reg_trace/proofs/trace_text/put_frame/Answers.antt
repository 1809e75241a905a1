use Rattle.std.proofs.Common.{◌++◌, codes, ap, sym}
use Rattle.std.specs.Fmt.{decimal}
use Rattle.reg_text.proofs.Sent.{puts_as, puts_three}
use Rattle.reg_trace.specs.Traces.{body_text, frame_text}
use Rattle.reg_trace.proofs.trace_text.put_frame.Goals as goal

pub returns-in-Numbered : goal.returns-in-Numbered
returns-in-Numbered g c =
    let held = g.W.Write.contents in
    let names = c.args.names.now in
    let number = codes "data " ++ decimal c.in-Numbered.number in
    let body = body_text names c.args.from c.in-Numbered.body in
    puts_as held c.args.sink.now c.put_body.new.sink (number ++ (codes ": " ++ body)) (frame_text names c.args.from c.args.frame) (ap (frame_text names c.args.from) (sym c.in-Numbered.is))
    (puts_three held c.args.sink.now c.put_number.new.sink c.put.new.self c.put_body.new.sink number (codes ": ") body c.put_number.ensures c.put.ensures c.put_body.ensures)
