use Rattle.reg_observed.proofs.Verdicts.{verdict_agrees}
use Rattle.reg_observed.proofs.laws.keys_agree_with_the_whole.Goals as goal

pub returns : goal.returns
returns g c = λ processes keys rows some judged. verdict_agrees processes keys rows c.args.verdict.now some judged
