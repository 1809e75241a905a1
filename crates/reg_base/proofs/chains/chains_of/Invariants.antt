use Rattle.reg_base.specs.Names.{texts}
use Rattle.reg_base.proofs.ChainsLaws.{Chained}
use Rattle.reg_base.proofs.chains.chains_of.Given as goal

-- the names so far are chained
abbrev pub invariant-loop-place : goal.invariant-loop-place
invariant-loop-place g l = Chained (texts l.names) l.place l.chains.heads l.chains.earlier
