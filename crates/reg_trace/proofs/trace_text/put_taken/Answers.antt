use Rattle.std.proofs.Common.{◌∷◌, ◌++◌, [], codes, ap, sym, ◌∙◌}
use Rattle.reg_text.specs.Lines.{text_of}
use Rattle.reg_text.proofs.Sent.{puts_as, puts_three}
use Rattle.reg_trace.specs.Traces.{frame_text, taken_lines}
use Rattle.reg_trace.proofs.Tracing.{one_line}
use Rattle.reg_trace.proofs.trace_text.put_taken.Goals as goal

pub returns-in-Some : goal.returns-in-Some
returns-in-Some g c =
    let held = g.W.Write.contents in
    let names = c.args.names.now in
    let frame = frame_text names c.args.from c.in-Some.frame in
    puts_as held c.args.sink.now c.put-in-Some.new.self (codes "    takes " ++ (frame ++ 10 ∷ [])) (text_of (taken_lines names c.args.from c.args.frame))
    (one_line (codes "    takes " ++ frame) ∙ ap (λ o. text_of (taken_lines names c.args.from o)) (sym c.in-Some.is))
    (puts_three held c.args.sink.now c.put.new.self c.put_frame.new.sink c.put-in-Some.new.self (codes "    takes ") frame (10 ∷ []) c.put.ensures c.put_frame.ensures c.put-in-Some.ensures)
