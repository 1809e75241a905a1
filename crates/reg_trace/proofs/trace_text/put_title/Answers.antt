use Rattle.std.proofs.Common.{◌++◌, ◌∷◌, [], rules}
use Rattle.reg_trace.specs.Traces.{title_line}
use Rattle.reg_text.proofs.Sent.{puts_as, puts_two}
use Rattle.reg_trace.proofs.Titled.{line_of_title}
use Rattle.reg_trace.proofs.trace_text.put_title.Goals as goal

pub returns-then-not-is_empty : goal.returns-then-not-is_empty
returns-then-not-is_empty g c =
    let held = g.W.Write.contents in
    let title = c.args.title.now in
    puts_as held c.args.sink.now c.put-then-not-is_empty.new.self (title ++ 10 ∷ []) (title_line title) (line_of_title title c.is_empty.result c.is_empty.ensures c.if-not-is_empty.true)
    (puts_two held c.args.sink.now c.put.new.self c.put-then-not-is_empty.new.self title (10 ∷ []) (search rules) c.put-then-not-is_empty.ensures)
