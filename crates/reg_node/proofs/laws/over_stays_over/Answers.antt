use Rattle.reg_world.proofs.witness.Promised.{settled}
use Rattle.reg_node.proofs.Ended.{accepted_all, none_pending, put_no_more}
use Rattle.reg_node.proofs.laws.over_stays_over.Goals as goal

pub returns-clause-put : goal.returns-clause-put
returns-clause-put c = put_no_more

pub returns-clause-accepted : goal.returns-clause-accepted
returns-clause-accepted c = accepted_all

pub returns-clause-equal : goal.returns-clause-equal
returns-clause-equal c = λ start n registers events time told keeps T over. settled start n registers keeps events (none_pending start n registers events time told T over)
