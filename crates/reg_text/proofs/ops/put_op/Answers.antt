use Rattle.std.proofs.Common.{◌≡◌, [], ◌∷◌, ◌++◌, codes, ◌∙◌, sym, ap, append_assoc}
use Rattle.std.specs.Fmt.{decimal}
use Rattle.reg_text.specs.Ops.{op_text, op_line}
use Rattle.reg_text.proofs.Sent.{puts_two, puts_as}
use Rattle.reg_text.proofs.ops.put_op.Goals as goal

pub returns-in-Read : goal.returns-in-Read
returns-in-Read g c =
    let held = g.W.Write.contents in
    let name = c.name_of_op-name.result.now in
    let line : codes "read " ++ name ≡ op_text c.args.names.now c.args.op = ap (op_line name) (sym c.in-Read.is) ∙ c.name_of_op-name.ensures in
    puts_as held c.args.sink.now c.put-in-Read.new.self (codes "read " ++ name) (op_text c.args.names.now c.args.op) line
    (puts_two held c.args.sink.now c.put.new.self c.put-in-Read.new.self (codes "read ") name c.put.ensures
    (puts_as held c.put.new.self c.put-in-Read.new.self c.as_bytes.result.now name c.as_bytes.ensures.value c.put-in-Read.ensures))

pub returns-in-Write : goal.returns-in-Write
returns-in-Write g c =
    let held = g.W.Write.contents in
    let name = c.name_of_op-name.result.now in
    let rest = name ++ 32 ∷ decimal c.in-Write.value in
    let line : codes "write " ++ rest ≡ op_text c.args.names.now c.args.op = ap (λ l. codes "write " ++ l) (sym (append_assoc name (32 ∷ []) (decimal c.in-Write.value))) ∙ ap (op_line name) (sym c.in-Write.is) ∙ c.name_of_op-name.ensures in
    puts_as held c.args.sink.now c.put_valued.new.sink (codes "write " ++ rest) (op_text c.args.names.now c.args.op) line
    (puts_two held c.args.sink.now c.put-in-Write.new.self c.put_valued.new.sink (codes "write ") rest c.put-in-Write.ensures c.put_valued.ensures)

pub returns-in-Swap : goal.returns-in-Swap
returns-in-Swap g c =
    let held = g.W.Write.contents in
    let name = c.name_of_op-name.result.now in
    let rest = name ++ 32 ∷ decimal c.in-Swap.value in
    let line : codes "swap " ++ rest ≡ op_text c.args.names.now c.args.op = ap (λ l. codes "swap " ++ l) (sym (append_assoc name (32 ∷ []) (decimal c.in-Swap.value))) ∙ ap (op_line name) (sym c.in-Swap.is) ∙ c.name_of_op-name.ensures in
    puts_as held c.args.sink.now c.put_valued-in-Swap.new.sink (codes "swap " ++ rest) (op_text c.args.names.now c.args.op) line
    (puts_two held c.args.sink.now c.put-in-Swap.new.self c.put_valued-in-Swap.new.sink (codes "swap ") rest c.put-in-Swap.ensures c.put_valued-in-Swap.ensures)

pub returns-in-CompareAndSwap : goal.returns-in-CompareAndSwap
returns-in-CompareAndSwap g c =
    let held = g.W.Write.contents in
    let name = c.name_of_op-name.result.now in
    let expected = decimal c.in-CompareAndSwap.expected in
    let value = decimal c.in-CompareAndSwap.value in
    let line : codes "cas " ++ ((name ++ 32 ∷ expected) ++ 32 ∷ value) ≡ op_text c.args.names.now c.args.op =
    ap (λ l. codes "cas " ++ l) (append_assoc name (32 ∷ expected) (32 ∷ value)) ∙ ap (op_line name) (sym c.in-CompareAndSwap.is) ∙ c.name_of_op-name.ensures in
    puts_as held c.args.sink.now c.put_spaced.new.sink (codes "cas " ++ ((name ++ 32 ∷ expected) ++ 32 ∷ value)) (op_text c.args.names.now c.args.op) line
    (puts_two held c.args.sink.now c.put-in-CompareAndSwap.new.self c.put_spaced.new.sink (codes "cas ") ((name ++ 32 ∷ expected) ++ 32 ∷ value) c.put-in-CompareAndSwap.ensures
    (puts_two held c.put-in-CompareAndSwap.new.self c.put_valued-in-CompareAndSwap.new.sink c.put_spaced.new.sink (name ++ 32 ∷ expected) (32 ∷ value) c.put_valued-in-CompareAndSwap.ensures c.put_spaced.ensures))
