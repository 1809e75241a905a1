use Rattle.std.proofs.Common.{◌≡◌, ◌≤◌, ◌++◌, codes, take, drop, length, ◌-◌, ap, arith, rules}
use Rattle.std.specs.Fmt.{decimal}
use Rattle.std.proofs.lemmas.Fmt.{length-decimal-le}
use Rattle.reg_text.specs.Columns.{to_right, to_left}
use Rattle.reg_text.proofs.Sent.{puts_as}
use Rattle.reg_history.proofs.Columned.{columns_written, mark_of}
use Rattle.reg_history.proofs.write.put_columns.Goals as goal

pub write_digits-requires : goal.write_digits-requires
write_digits-requires g c = (length-decimal-le 8 c.args.at (omega arith) (omega arith) (omega arith), omega arith)

pub returns : goal.returns
returns g c =
    let event = decimal c.args.at in
    let process = decimal c.args.id.process in
    let number = decimal c.args.id.number in
    let old = c.args.line.now in
    let first = c.write_digits.new.buf in
    let second = c.write_left.new.line in
    let third = c.write_left-2.new.line in
    let narrow : length process ≤ 3 = length-decimal-le 3 c.args.id.process (omega arith) (omega arith) (omega arith) in
    let few : length number ≤ 6 = length-decimal-le 6 c.args.id.number (omega arith) (omega arith) (omega arith) in
    puts_as g.W.Write.contents c.args.sink.now c.put.new.self third (to_right 8 event ++ (codes "  p" ++ (to_left 3 process ++ (codes "  #" ++ (to_left 6 number ++ drop 23 old)))))
    (columns_written event process number old first second third c.write_digits.result c.requires narrow few
    c.write_digits.ensures.start c.write_digits.ensures.written c.write_digits.ensures.before c.write_left.ensures.written c.write_left.ensures.before c.write_left-2.ensures.written c.write_left-2.ensures.before) c.put.ensures

pub returns-then-at-gt99999999 : goal.returns-then-at-gt99999999
returns-then-at-gt99999999 g c =
    let line = c.args.line.now in
    let at = to_right 8 (decimal c.args.at) in
    let process = to_left 3 (decimal c.args.id.process) in
    let number = to_left 6 (decimal c.args.id.number) in
    let whole : length line ≡ 33 = search rules in
    puts_as g.W.Write.contents c.args.sink.now c.put_wide_columns.new.sink (at ++ (codes "  p" ++ (process ++ (codes "  #" ++ (number ++ drop 6 (take (33 - 17) (drop 17 line))))))) (at ++ (codes "  p" ++ (process ++ (codes "  #" ++ (number ++ drop 23 line)))))
    (ap (λ m. at ++ (codes "  p" ++ (process ++ (codes "  #" ++ (number ++ m))))) (mark_of line c.requires whole)) c.put_wide_columns.ensures
