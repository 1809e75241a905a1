use Rattle.std.proofs.Common.{◌≤◌, length, arith, rules}
use Rattle.std.specs.Fmt.{decimal}
use Rattle.std.proofs.lemmas.Fmt.{length-decimal-le}
use Rattle.reg_history.proofs.write.put_point.Goals as goal

pub write_digits-at-requires : goal.write_digits-at-requires
write_digits-at-requires g c =
    (length-decimal-le 30 c.args.point.at (omega arith) (omega arith) (omega arith), omega arith)

pub write_before-id-requires : goal.write_before-id-requires
write_before-id-requires g c =
    let at : length (decimal c.args.point.at) ≤ 10 = length-decimal-le 10 c.args.point.at (omega arith) (omega arith) (omega arith) in
    search (rules, at)

pub write_id-start-requires : goal.write_id-start-requires
write_id-start-requires g c =
    let at : length (decimal c.args.point.at) ≤ 10 = length-decimal-le 10 c.args.point.at (omega arith) (omega arith) (omega arith) in
    search (rules, at)
