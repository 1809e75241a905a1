use Rattle.std.proofs.Common.{◌≡◌, List, ◌∷◌, ◌++◌, [], codes, ap, sym, ◌∙◌, append_assoc}
use Rattle.std.specs.Fmt.{decimal}
use Rattle.std.proofs.lemmas.Bool.{cond-true}
use Rattle.reg_base.specs.Memory.{register_of, updates}
use Rattle.reg_text.specs.Lines.{text_of}
use Rattle.reg_text.specs.Ops.{name_of, valued}
use Rattle.reg_text.proofs.Sent.{puts_as, puts_four}
use Rattle.reg_trace.specs.Traces.{copy_lines}
use Rattle.reg_trace.proofs.Tracing.{one_line}
use Rattle.reg_trace.proofs.trace_text.put_copy.Goals as goal

pub returns-then-updates : goal.returns-then-updates
returns-then-updates g c =
    let held = g.W.Write.contents in
    let names = c.args.names.now in
    let op = c.args.delivery.cast.op in
    let value = c.args.delivery.value in
    let mark = codes "    copy " in
    let name = name_of names (register_of op) in
    let lines : List (List _) = (mark ++ valued names (register_of op) value) ∷ [] in
    let named : c.as_bytes.result.now ≡ name = c.as_bytes.ensures.value ∙ (c.name_at.ensures ∙ ap (name_of names) c.register.ensures) in
    let line : mark ++ (name ++ ((32 ∷ decimal value) ++ 10 ∷ [])) ≡ text_of (copy_lines names c.args.delivery) =
    ap (λ l. mark ++ l) (sym (append_assoc name (32 ∷ decimal value) (10 ∷ []))) ∙ (one_line (mark ++ valued names (register_of op) value) ∙ ap text_of (sym (cond-true (updates op) lines [] (sym c.updates.ensures ∙ c.if-updates.true)))) in
    puts_as held c.args.sink.now c.put-then-updates-2.new.self (mark ++ (name ++ ((32 ∷ decimal value) ++ 10 ∷ []))) (text_of (copy_lines names c.args.delivery)) line
    (puts_four held c.args.sink.now c.put.new.self c.put-then-updates.new.self c.put_number.new.sink c.put-then-updates-2.new.self mark name (32 ∷ decimal value) (10 ∷ []) c.put.ensures
    (puts_as held c.put.new.self c.put-then-updates.new.self c.as_bytes.result.now name named c.put-then-updates.ensures) c.put_number.ensures c.put-then-updates-2.ensures)
