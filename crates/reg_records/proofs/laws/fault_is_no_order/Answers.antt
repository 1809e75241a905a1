use Rattle.reg_records.proofs.MergeVerdicts.{fault_is_no_order as the_lemma}
use Rattle.reg_records.proofs.laws.fault_is_no_order.Goals as goal

pub returns : goal.returns
returns c = the_lemma
