use Rattle.reg_outcomes.proofs.Known.{raised_forced, same_counts}
use Rattle.reg_outcomes.proofs.orders.before.Before.raise.Goals as goal

pub returns-in-Some : goal.returns-in-Some
returns-in-Some g c = λ s forced comes. raised_forced s c.args.self.now c.note.new.self c.args.id c.args.process c.args.count (λ x p k is. c.set.ensures x p k (same_counts c.set.new.self c.note.new.self c.note.ensures.processes c.note.ensures.counts x p k is)) forced comes
