use Rattle.std.proofs.Common.{◌∙◌}
use Rattle.reg_outcomes.proofs.TellingHistory.{outcome_none, outcome_next}
use Rattle.reg_outcomes.proofs.told.tell.Goals as goal

pub loop-process-init : goal.loop-process-init
loop-process-init g c = c.new-outcome.ensures.items ∙ outcome_none c.entries-entries.result.now

pub loop-process-preserved : goal.loop-process-preserved
loop-process-preserved g c =
    outcome_next c.loop-process.process c.entries-entries.result.now c.loop-process.outcome.items c.tell_process.new.outcome.items c.loop-process.invariant c.in_ok-tell_process.ensures
