use Rattle.reg_trace.proofs.Arrowed.{have_arrows}
use Rattle.reg_trace.proofs.laws.takes_have_arrows.Goals as goal

pub returns : goal.returns
returns c = have_arrows
