use Rattle.std.proofs.Common.{◌≡◌, ◌∷◌, ◌++◌, [], codes, ap, sym, ◌∙◌, append_assoc}
use Rattle.std.specs.Fmt.{decimal}
use Rattle.reg_text.specs.Lines.{text_of}
use Rattle.reg_text.proofs.Sent.{puts_two, puts_as}
use Rattle.reg_trace.specs.Traces.{drops_lines}
use Rattle.reg_trace.proofs.Tracing.{one_line}
use Rattle.reg_trace.proofs.trace_text.put_drops.Goals as goal

pub returns-in-Some : goal.returns-in-Some
returns-in-Some g c =
    let held = g.W.Write.contents in
    let number = decimal c.in-Some.number in
    let mark = codes "    drops it: number " in
    let end = codes " is expected" in
    let line : (mark ++ number) ++ (end ++ 10 ∷ []) ≡ text_of (drops_lines c.args.expected) =
    append_assoc mark number (end ++ 10 ∷ []) ∙ (ap (λ l. mark ++ l) (sym (append_assoc number end (10 ∷ []))) ∙ (one_line (mark ++ (number ++ end)) ∙ ap (λ o. text_of (drops_lines o)) (sym c.in-Some.is))) in
    puts_as held c.args.sink.now c.put.new.self ((mark ++ number) ++ (end ++ 10 ∷ [])) (text_of (drops_lines c.args.expected)) line
    (puts_two held c.args.sink.now c.put_number.new.sink c.put.new.self (mark ++ number) (end ++ 10 ∷ []) c.put_number.ensures c.put.ensures)
