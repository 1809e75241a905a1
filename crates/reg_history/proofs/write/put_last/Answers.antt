use Rattle.std.proofs.Common.{arith}
use Rattle.std.proofs.lemmas.Fmt.{length-decimal-le}
use Rattle.reg_history.proofs.write.put_last.Goals as goal

pub write_digits-start-requires : goal.write_digits-start-requires
write_digits-start-requires g c =
    (length-decimal-le 20 c.args.number (omega arith) (omega arith) c.ranges.number.fits, omega arith)
