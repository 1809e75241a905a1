use Rattle.std.proofs.Common.{◌≤◌, length, arith, rules}
use Rattle.std.specs.Fmt.{decimal}
use Rattle.std.proofs.lemmas.Fmt.{length-decimal-le}
use Rattle.reg_history.proofs.write.put_value.Goals as goal

pub write_digits-digits-requires : goal.write_digits-digits-requires
write_digits-digits-requires g c =
    (length-decimal-le 26 c.args.value (omega arith) (omega arith) c.ranges.value.fits, omega arith)

pub write_before-start-requires : goal.write_before-start-requires
write_before-start-requires g c =
    let digits : length (decimal c.args.value) ≤ 20 = length-decimal-le 20 c.args.value (omega arith) (omega arith) c.ranges.value.fits in
    search (rules, digits)
