use Rattle.std.proofs.Common.{◌++◌, codes}
use Rattle.reg_text.proofs.Sent.{puts_two, puts_as}
use Rattle.reg_reasons.specs.FirstLines.{counted}
use Rattle.reg_reasons.proofs.first_lines.put_subject.Goals as goal

pub returns : goal.returns
returns g c =
    let held = g.W.Write.contents in
    let s = c.args.subject in
    let start = c.args.sink.now in
    let name = puts_as held start c.put.new.self c.as_bytes.result.now s.name.now c.as_bytes.ensures.value c.put.ensures in
    let processes = counted s.processes (codes " process, ") (codes " processes, ") in
    let registers = counted s.registers (codes " register, ") (codes " registers, ") in
    let one = puts_two held start c.put.new.self c.put_counted.new.sink s.name.now processes name c.put_counted.ensures in
    let two = puts_two held start c.put_counted.new.sink c.put_counted-2.new.sink (s.name.now ++ processes) registers one c.put_counted-2.ensures in
    let front = puts_as held c.put_counted-2.new.sink c.put-2.new.self c.as_bytes-2.result.now s.front.now c.as_bytes-2.ensures.value c.put-2.ensures in
    let three = puts_two held start c.put_counted-2.new.sink c.put-2.new.self ((s.name.now ++ processes) ++ registers) s.front.now two front in
    let four = puts_two held start c.put-2.new.self c.put-3.new.self (((s.name.now ++ processes) ++ registers) ++ s.front.now) (codes ", ") three c.put-3.ensures in
    puts_two held start c.put-3.new.self c.put_counted-3.new.sink ((((s.name.now ++ processes) ++ registers) ++ s.front.now) ++ codes ", ") (counted s.count s.one.now s.many.now) four c.put_counted-3.ensures
