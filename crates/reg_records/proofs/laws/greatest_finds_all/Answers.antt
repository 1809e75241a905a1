use Rattle.reg_records.proofs.MergeVerdicts.{greatest_finds_all as the_lemma}
use Rattle.reg_records.proofs.laws.greatest_finds_all.Goals as goal

pub returns : goal.returns
returns c = the_lemma
