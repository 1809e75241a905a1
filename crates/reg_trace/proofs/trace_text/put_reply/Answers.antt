use Rattle.std.proofs.Common.{◌≡◌, ◌∷◌, ◌++◌, [], codes, ap, sym, ◌∙◌, append_assoc}
use Rattle.std.specs.Fmt.{decimal}
use Rattle.reg_text.specs.Ops.{answer_text}
use Rattle.reg_text.specs.Lines.{text_of}
use Rattle.reg_text.proofs.Sent.{puts_as, puts_four}
use Rattle.reg_trace.specs.Traces.{answers_lines}
use Rattle.reg_trace.proofs.Tracing.{one_line}
use Rattle.reg_trace.proofs.trace_text.put_reply.Goals as goal

pub returns-in-Some : goal.returns-in-Some
returns-in-Some g c =
    let held = g.W.Write.contents in
    let answer = answer_text c.in-Some.reply.answer in
    let place = codes ", place " ++ decimal c.in-Some.reply.place in
    let line : codes "    answers " ++ (answer ++ (place ++ 10 ∷ [])) ≡ text_of (answers_lines c.args.reply) =
    ap (λ l. codes "    answers " ++ l) (sym (append_assoc answer place (10 ∷ []))) ∙ (one_line (codes "    answers " ++ (answer ++ place)) ∙ ap (λ o. text_of (answers_lines o)) (sym c.in-Some.is)) in
    puts_as held c.args.sink.now c.put-in-Some.new.self (codes "    answers " ++ (answer ++ (place ++ 10 ∷ []))) (text_of (answers_lines c.args.reply)) line
    (puts_four held c.args.sink.now c.put.new.self c.put_answer.new.sink c.put_number.new.sink c.put-in-Some.new.self (codes "    answers ") answer place (10 ∷ []) c.put.ensures c.put_answer.ensures c.put_number.ensures c.put-in-Some.ensures)
