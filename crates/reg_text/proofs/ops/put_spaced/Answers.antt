use Rattle.std.proofs.Common.{◌≤◌, ◌-◌, ◌∷◌, take, drop, length, arith}
use Rattle.std.specs.Fmt.{decimal}
use Rattle.std.proofs.lemmas.Fmt.{length-decimal-le}
use Rattle.reg_text.proofs.Sent.{puts_as}
use Rattle.reg_text.proofs.Spaced.{spaced}
use Rattle.reg_text.proofs.ops.put_spaced.Goals as goal

pub write_digits-start-requires : goal.write_digits-start-requires
write_digits-start-requires g c =
    (length-decimal-le 21 c.args.number (omega arith) (omega arith) c.ranges.number.fits, omega arith)

pub overflow_sub-start : goal.overflow_sub-start
overflow_sub-start g c =
    let few : length (decimal c.args.number) ≤ 20 = length-decimal-le 20 c.args.number (omega arith) (omega arith) c.ranges.number.fits in
    omega (arith, few, c.write_digits-start.ensures.start)

pub returns : goal.returns
returns g c =
    let digits = decimal c.args.number in
    let start = c.write_digits-start.result in
    let few : length digits ≤ 20 = length-decimal-le 20 c.args.number (omega arith) (omega arith) c.ranges.number.fits in
    puts_as g.W.Write.contents c.args.sink.now c.put.new.self (take (21 - (start - 1)) (drop (start - 1) c.write_digits-start.new.buf)) (32 ∷ digits)
    (spaced start digits c.write_digits-start.new.buf c.write_digits-start.ensures.start few c.write_digits-start.ensures.written c.write_digits-start.ensures.before) c.put.ensures
