use Rattle.reg_judge.proofs.Narrowing.{none_explained}
use Rattle.reg_judge.proofs.judge.explained.Goals as goal

pub returns : goal.returns
returns g c = none_explained c.args.history.now.shape.registers c.args.history.now.entries _ c.requires
