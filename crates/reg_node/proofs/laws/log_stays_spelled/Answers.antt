use Rattle.reg_node.proofs.Spelling.{spelled_given, spelled_on, spelled_still}
use Rattle.reg_node.proofs.laws.log_stays_spelled.Goals as goal

pub returns-clause-written : goal.returns-clause-written
returns-clause-written c = λ start first j past old new e bytes is w. spelled_on start first j past old new e bytes w is

pub returns-clause-refused : goal.returns-clause-refused
returns-clause-refused c =
    λ start first j past old new e fault is w other. spelled_still start first j past old new e fault w other is

pub returns-clause-handed : goal.returns-clause-handed
returns-clause-handed c = λ start first j past old new output is h. spelled_given start first j past old new output h is
