use Rattle.reg_judge.specs.Stages.{Extends, HasAfterTo}
use Rattle.reg_judge.proofs.found.Found.add_all_after.Given as goal

abbrev pub invariant-loop-mover : goal.invariant-loop-mover
invariant-loop-mover g l = record {
  extends : Extends l.initial.self.stages.items l.self.stages.items;
  there : HasAfterTo l.mover-index l.movers l.stage l.self.stages.items;
}
