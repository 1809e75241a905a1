use Rattle.reg_records.proofs.Verdicts.{one_list as the_lemma}
use Rattle.reg_records.proofs.laws.one_list.Goals as goal

pub returns : goal.returns
returns c = the_lemma
