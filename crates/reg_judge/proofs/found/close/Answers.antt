use Rattle.std.proofs.Common.{subst, List}
use Rattle.reg_judge.specs.declared.stages.Stage.{Stage}
use Rattle.reg_judge.specs.Stages.{Keeps}
use Rattle.reg_judge.proofs.Keeping.{stage_extends}
use Rattle.reg_judge.proofs.found.close.Goals as goal

pub returns : goal.returns
returns g c =
    let stages = c.complete.new.self.stages.items in
    record {
      stages = stages;
      each = λ j s at. stage_extends c.add_each.new.self.stages.items stages s.placed s.value c.in_ok-complete.ensures.extends (c.in_ok-add_each.ensures j s at);
      done = c.in_ok-complete.ensures.done c.if-not-branch.false;
      kept = subst (λ (l : List Stage). Keeps c.args.at.process l c.in_ok-kept.kept.items) c.deref.ensures.value c.in_ok-kept.ensures;
    }
