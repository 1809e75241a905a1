use Rattle.std.proofs.Common.{rules, tests}
use Rattle.reg_checkers.proofs.marks.standing.Goals as goal

pub returns-in_err-fact : goal.returns-in_err-fact
returns-in_err-fact g c = search (tests, rules)

pub returns : goal.returns
returns g c = search (tests, rules)
