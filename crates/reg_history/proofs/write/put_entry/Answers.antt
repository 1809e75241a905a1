use Rattle.std.proofs.Common.{◌++◌, ◌∷◌, [], codes, ap, sym, ◌∙◌}
use Rattle.std.specs.Fmt.{decimal}
use Rattle.reg_text.specs.Columns.{to_right, to_left}
use Rattle.reg_text.specs.Ops.{op_text, answer_text}
use Rattle.reg_text.proofs.Sent.{puts_two, puts_as}
use Rattle.reg_history.specs.EntryLines.{entry_text}
use Rattle.reg_history.proofs.Writing.{entry_joined}
use Rattle.reg_history.proofs.write.put_entry.Goals as goal

pub returns-in-Called : goal.returns-in-Called
returns-in-Called g c =
    let held = g.W.Write.contents in
    let e = c.in-Called in
    let at = to_right 8 (decimal e.at) in
    let process = to_left 3 (decimal e.id.process) in
    let number = to_left 6 (decimal e.id.number) in
    let front = at ++ (codes "  p" ++ (process ++ (codes "  #" ++ (number ++ codes "  call    ")))) in
    let rest = op_text c.args.names.now e.op in
    puts_as held c.args.sink.now c.put_op_line.new.sink (front ++ (rest ++ 10 ∷ [])) (entry_text c.args.names.now c.args.entry ++ 10 ∷ [])
    (entry_joined at process number (codes "  call    ") rest ∙ ap (λ x. entry_text c.args.names.now x ++ 10 ∷ []) (sym e.is))
    (puts_two held c.args.sink.now c.put_columns.new.sink c.put_op_line.new.sink front (rest ++ 10 ∷ []) c.put_columns.ensures c.put_op_line.ensures)

pub returns-in-Answered : goal.returns-in-Answered
returns-in-Answered g c =
    let held = g.W.Write.contents in
    let e = c.in-Answered in
    let at = to_right 8 (decimal e.at) in
    let process = to_left 3 (decimal e.id.process) in
    let number = to_left 6 (decimal e.id.number) in
    let front = at ++ (codes "  p" ++ (process ++ (codes "  #" ++ (number ++ codes "  answer  ")))) in
    let rest = answer_text e.answer in
    puts_as held c.args.sink.now c.put_answer.new.sink (front ++ (rest ++ 10 ∷ [])) (entry_text c.args.names.now c.args.entry ++ 10 ∷ [])
    (entry_joined at process number (codes "  answer  ") rest ∙ ap (λ x. entry_text c.args.names.now x ++ 10 ∷ []) (sym e.is))
    (puts_two held c.args.sink.now c.put_columns-in-Answered.new.sink c.put_answer.new.sink front (rest ++ 10 ∷ []) c.put_columns-in-Answered.ensures c.put_answer.ensures)
