use Rattle.std.proofs.Common.{subst}
use Rattle.reg_checkers.specs.Log.{Log, IsLog}
use Rattle.reg_checkers.proofs.log.History.entries.Goals as goal

pub returns-clause-in_place : goal.returns-clause-in_place
returns-clause-in_place g c = let P : Log → Type 0 = λ h. IsLog h in subst P c.self.view_is c.self.invariant.history
