use Rattle.std.proofs.Common.{sym, arith}
use Rattle.itoa.proofs.Decimal.{length_one, length_two}
use Rattle.reg_history.proofs.Digits.{three, four, five, six}
use Rattle.reg_history.proofs.write.count_digits.Goals as goal

pub returns-in-0-to-9-clause-count : goal.returns-in-0-to-9-clause-count
returns-in-0-to-9-clause-count c = sym (length_one c.args.number (omega arith))

pub returns-in-10-to-99-clause-count : goal.returns-in-10-to-99-clause-count
returns-in-10-to-99-clause-count c = sym (length_two c.args.number (omega arith) (omega arith))

pub returns-in-100-to-999-clause-count : goal.returns-in-100-to-999-clause-count
returns-in-100-to-999-clause-count c = sym (three c.args.number (omega arith) (omega arith))

pub returns-in-1000-to-9999-clause-count : goal.returns-in-1000-to-9999-clause-count
returns-in-1000-to-9999-clause-count c = sym (four c.args.number (omega arith) (omega arith))

pub returns-in-10000-to-99999-clause-count : goal.returns-in-10000-to-99999-clause-count
returns-in-10000-to-99999-clause-count c = sym (five c.args.number (omega arith) (omega arith))

pub returns-in_default-clause-count : goal.returns-in_default-clause-count
returns-in_default-clause-count c = sym (six c.args.number (omega arith) (omega arith))
