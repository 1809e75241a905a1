use Rattle.reg_world.proofs.witness.Promised.{replies_right, rests}
use Rattle.reg_world.proofs.one_memory.Arrivals.{reads_right}
use Rattle.reg_world.proofs.laws.one_memory.Goals as goal

pub returns-clause-replies : goal.returns-clause-replies
returns-clause-replies c = λ start n registers events laws. replies_right start n registers laws events

pub returns-clause-reads : goal.returns-clause-reads
returns-clause-reads c = λ start n registers events laws. reads_right start n registers laws events

pub returns-clause-quiescent : goal.returns-clause-quiescent
returns-clause-quiescent c = λ start n registers events laws. rests start n registers laws events
