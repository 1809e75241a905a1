use Rattle.reg_outcomes.specs.Losing.{AreAskers, AreMakersTo}
use Rattle.reg_outcomes.proofs.orders.uses.Uses.new.Given as goal

-- the first entries are told of
abbrev pub invariant-loop-place : goal.invariant-loop-place
invariant-loop-place g l = record {
  makers : AreMakersTo l.place l.finder.entries l.uses.makers;
  askers : AreAskers l.finder.entries l.uses.askers;
}
