use Rattle.reg_outcomes.specs.Forced.{word_at}
use Rattle.reg_outcomes.proofs.Known.{none_pushed}
use Rattle.reg_outcomes.proofs.orders.before.Before.new.Goals as goal

pub loop-process-preserved : goal.loop-process-preserved
loop-process-preserved g c = λ process place. none_pushed (word_at place) c.loop-process.counts.items c.push.new.self.items c.in_ok-row_of.field-0 process c.in_ok-push.ensures.items (c.in_ok-row_of.ensures place) (c.loop-process.invariant process place)
