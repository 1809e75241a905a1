use Rattle.std.proofs.Common.{rules}
use Rattle.reg_live.proofs.journals.Journal.append.Goals as goal

pub returns-clause-added : goal.returns-clause-added
returns-clause-added g c = search rules

pub returns-clause-spot : goal.returns-clause-spot
returns-clause-spot g c = search rules

pub returns-clause-floor : goal.returns-clause-floor
returns-clause-floor g c = search rules

pub returns-then-place-from-clause-fault : goal.returns-then-place-from-clause-fault
returns-then-place-from-clause-fault g c = search rules

pub returns-then-is_err-clause-fault : goal.returns-then-is_err-clause-fault
returns-then-is_err-clause-fault g c = search rules
