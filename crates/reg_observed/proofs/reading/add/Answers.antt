use Rattle.reg_observed.proofs.Hearing.{hears_nothing, hears_call}
use Rattle.reg_observed.proofs.reading.add.Goals as goal

pub returns-in_ok-push-in-Some-clause-told : goal.returns-in_ok-push-in-Some-clause-told
returns-in_ok-push-in-Some-clause-told c = hears_call _ _ _ _ c.in-Some.told c.in_ok-event-in-Some.event c.in-Some.is c.in_ok-event-in-Some.ensures.wider c.in_ok-event-in-Some.ensures.event c.in_ok-push-in-Some.ensures.items

pub returns-in-None-clause-told : goal.returns-in-None-clause-told
returns-in-None-clause-told c = hears_nothing _ _ _ c.in-None.is
