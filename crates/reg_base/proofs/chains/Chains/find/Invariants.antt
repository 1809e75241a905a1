use Rattle.reg_base.specs.Names.{texts}
use Rattle.reg_base.proofs.ChainsLaws.{Seeks}
use Rattle.reg_base.proofs.chains.Chains.find.Given as goal

-- no place after this one has the name
abbrev pub invariant-loop-turn : goal.invariant-loop-turn
invariant-loop-turn g l = Seeks (texts l.names) l.name l.place l._turn
