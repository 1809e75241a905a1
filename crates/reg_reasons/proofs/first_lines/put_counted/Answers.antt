use Rattle.std.proofs.Common.{◌≡◌, ◌++◌, ◌==◌, ap, refl}
use Rattle.std.specs.Prelude.{if◌then◌else◌}
use Rattle.std.specs.Fmt.{decimal}
use Rattle.reg_text.proofs.Sent.{puts_two, puts_as}
use Rattle.reg_reasons.specs.FirstLines.{counted}
use Rattle.reg_reasons.proofs.OperationsCounted.{more}
use Rattle.reg_reasons.proofs.first_lines.put_counted.Goals as goal

pub returns-then-count-eq1 : goal.returns-then-count-eq1
returns-then-count-eq1 g c =
    let held = g.W.Write.contents in
    let n = c.args.count in
    let one = c.args.one.now in
    let is : one ≡ (if n == 1 then one else c.args.many.now) = rw c.if-count-eq1.true refl in
    let words = puts_as held c.put_number.new.sink c.put.new.self c.as_bytes.result.now one c.as_bytes.ensures.value c.put.ensures in
    puts_as held c.args.sink.now c.put.new.self (decimal n ++ one) (counted n one c.args.many.now) (ap (λ t. decimal n ++ t) is)
    (puts_two held c.args.sink.now c.put_number.new.sink c.put.new.self (decimal n) one c.put_number.ensures words)

pub returns-else-count-eq1 : goal.returns-else-count-eq1
returns-else-count-eq1 g c =
    let held = g.W.Write.contents in
    let n = c.args.count in
    let many = c.args.many.now in
    let is : many ≡ (if n == 1 then c.args.one.now else many) = more n c.args.one.now many c.if-count-eq1.false in
    let words = puts_as held c.put_number.new.sink c.put-else-count-eq1.new.self c.as_bytes-else-count-eq1.result.now many c.as_bytes-else-count-eq1.ensures.value c.put-else-count-eq1.ensures in
    puts_as held c.args.sink.now c.put-else-count-eq1.new.self (decimal n ++ many) (counted n c.args.one.now many) (ap (λ t. decimal n ++ t) is)
    (puts_two held c.args.sink.now c.put_number.new.sink c.put-else-count-eq1.new.self (decimal n) many c.put_number.ensures words)
