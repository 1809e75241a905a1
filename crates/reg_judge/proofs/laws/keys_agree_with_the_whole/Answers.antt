use Rattle.reg_judge.proofs.Wholes.{each_is, whole_is}
use Rattle.reg_judge.proofs.laws.keys_agree_with_the_whole.Goals as goal

pub returns : goal.returns
returns c = λ naming processes keys rows entries rulings stood are. (each_is naming processes keys rows entries stood rulings are, whole_is naming processes keys rows entries stood rulings are)
