use Rattle.reg_judge.specs.Stages.{AreDoneTo, Extends}
use Rattle.reg_judge.proofs.found.Found.complete.Given as goal

abbrev pub invariant-loop-place : goal.invariant-loop-place
invariant-loop-place g l = record {
  extends : Extends l.initial.self.stages.items l.self.stages.items;
  done : AreDoneTo l.place l.movers l.process l.self.stages.items;
}
