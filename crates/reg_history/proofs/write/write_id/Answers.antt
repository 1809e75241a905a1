use Rattle.std.proofs.Common.{◌≤◌, length, arith, rules}
use Rattle.std.specs.Fmt.{decimal}
use Rattle.std.proofs.lemmas.Fmt.{length-decimal-le}
use Rattle.reg_history.proofs.write.write_id.Goals as goal

pub write_digits-number-requires : goal.write_digits-number-requires
write_digits-number-requires c =
    let number : length (decimal c.args.id.number) ≤ 10 = length-decimal-le 10 c.args.id.number (omega arith) (omega arith) (omega arith) in
    (omega (arith, number, c.requires.0), c.requires.1)

pub write_before-mark-requires : goal.write_before-mark-requires
write_before-mark-requires c =
    let number : length (decimal c.args.id.number) ≤ 10 = length-decimal-le 10 c.args.id.number (omega arith) (omega arith) (omega arith) in
    search (rules, number)

pub write_digits-process-requires : goal.write_digits-process-requires
write_digits-process-requires c =
    let number : length (decimal c.args.id.number) ≤ 10 = length-decimal-le 10 c.args.id.number (omega arith) (omega arith) (omega arith) in
    let process : length (decimal c.args.id.process) ≤ 3 = length-decimal-le 3 c.args.id.process (omega arith) (omega arith) (omega arith) in
    search (rules, number, process)

pub write_before-requires : goal.write_before-requires
write_before-requires c =
    let number : length (decimal c.args.id.number) ≤ 10 = length-decimal-le 10 c.args.id.number (omega arith) (omega arith) (omega arith) in
    let process : length (decimal c.args.id.process) ≤ 3 = length-decimal-le 3 c.args.id.process (omega arith) (omega arith) (omega arith) in
    search (rules, number, process)
