use Rattle.reg_records.proofs.Verdicts.{one_run as the_lemma}
use Rattle.reg_records.proofs.laws.one_run.Goals as goal

pub returns : goal.returns
returns c = the_lemma
