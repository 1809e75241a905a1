use Rattle.reg_records.proofs.Logged.{one_witness_of_logs}
use Rattle.reg_records.proofs.OneWitness.{one_witness}
use Rattle.reg_records.proofs.laws.one_witness.Goals as goal

pub returns-clause-steps : goal.returns-clause-steps
returns-clause-steps c = λ start n registers a b ids others. one_witness start n registers a b ids others

pub returns-clause-logs : goal.returns-clause-logs
returns-clause-logs c =
    λ start shape logs order other u v ids others. one_witness_of_logs start shape logs order other u v ids others
