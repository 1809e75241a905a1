use Rattle.reg_world.proofs.witness.Earlier.{keeps_updates, keeps_all_updates, keeps_real_time}
use Rattle.reg_world.proofs.laws.witness_keeps_updates.Goals as goal

pub returns-clause-updates : goal.returns-clause-updates
returns-clause-updates c = λ start n registers events ids laws wit. keeps_updates start n registers laws events ids wit

pub returns-clause-all_updates : goal.returns-clause-all_updates
returns-clause-all_updates c =
    λ start n registers events ids laws all wit. keeps_all_updates start n registers laws events ids wit all

pub returns-clause-real_time : goal.returns-clause-real_time
returns-clause-real_time c =
    λ start n registers events ids all wit. keeps_real_time start n registers all events ids wit
