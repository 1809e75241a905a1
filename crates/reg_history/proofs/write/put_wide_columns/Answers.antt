use Rattle.std.proofs.Common.{◌≡◌, ◌++◌, ◌-◌, codes, take, drop, length, ap, ◌∙◌, arith, rules, refl}
use Rattle.std.specs.Fmt.{decimal}
use Rattle.std.proofs.lemmas.Fmt.{length-decimal-le}
use Rattle.reg_text.specs.Columns.{to_right, to_left}
use Rattle.reg_text.proofs.Sent.{puts_two, puts_as}
use Rattle.reg_history.proofs.Columned.{columns_joined, event_built, piece}
use Rattle.reg_history.proofs.write.put_wide_columns.Goals as goal

pub write_digits-start-requires : goal.write_digits-start-requires
write_digits-start-requires g c =
    (length-decimal-le 10 c.args.at (omega arith) (omega arith) (omega arith), omega arith)

pub returns : goal.returns
returns g c =
    let held = g.W.Write.contents in
    let event = decimal c.args.at in
    let new = c.write_digits-start.new.buf in
    let start = c.write_digits-start.result in
    let at = to_right 8 event in
    let process = to_left 3 (decimal c.args.id.process) in
    let number = to_left 6 (decimal c.args.id.number) in
    let mark = drop 6 c.args.marked.now in
    let whole : length new ≡ 13 = search rules in
    let built : take (13 - c.min.result) (drop c.min.result new) ≡ at ++ codes "  p" =
    piece 13 c.min.result (at ++ codes "  p") new whole (ap (λ j. drop j new) c.min.ensures ∙ event_built start event (codes "  p") (codes "            p") new refl c.write_digits-start.ensures.start c.write_digits-start.ensures.written c.write_digits-start.ensures.before) in
    puts_as held c.args.sink.now c.put_left-2.new.sink ((at ++ codes "  p") ++ ((process ++ codes "  #") ++ (number ++ mark))) (at ++ (codes "  p" ++ (process ++ (codes "  #" ++ (number ++ mark))))) (columns_joined at process number mark)
    (puts_two held c.args.sink.now c.put.new.self c.put_left-2.new.sink (at ++ codes "  p") ((process ++ codes "  #") ++ (number ++ mark))
    (puts_as held c.args.sink.now c.put.new.self (take (13 - c.min.result) (drop c.min.result new)) (at ++ codes "  p") built c.put.ensures)
    (puts_two held c.put.new.self c.put_left.new.sink c.put_left-2.new.sink (process ++ codes "  #") (number ++ mark) c.put_left.ensures c.put_left-2.ensures))
