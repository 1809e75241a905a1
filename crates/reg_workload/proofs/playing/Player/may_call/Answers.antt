use Rattle.reg_workload.proofs.playing.Player.may_call.Goals as goal

pub returns-then-has_left-clause-may : goal.returns-then-has_left-clause-may
returns-then-has_left-clause-may g c = (λ e. record { idle = c.is_idle.ensures.0 e; left = c.has_left.ensures.0 c.if-has_left.true }, λ m. c.is_idle.ensures.1 m.idle)
