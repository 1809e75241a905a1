use Rattle.reg_records.proofs.Verdicts.{fault_is_no_record as the_lemma}
use Rattle.reg_records.proofs.laws.fault_is_no_record.Goals as goal

pub returns : goal.returns
returns c = the_lemma
