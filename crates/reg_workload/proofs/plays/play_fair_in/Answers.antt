use Rattle.reg_workload.proofs.Loaded.{load_playable}
use Rattle.reg_workload.proofs.plays.play_fair_in.Goals as goal

pub returns-clause-finished : goal.returns-clause-finished
returns-clause-finished g c = rw (← c.work.view_is) c.play_fair.ensures.finished

pub returns-clause-enough : goal.returns-clause-enough
returns-clause-enough g c = rw (← c.work.view_is) (rw (← c.deref.ensures.value) c.play_fair.ensures.enough)

pub play_fair-requires-clause-playable : goal.play_fair-requires-clause-playable
play_fair-requires-clause-playable g c = rw c.deref.ensures.value (load_playable _ c.work.invariant)
