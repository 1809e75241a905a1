use Rattle.std.proofs.Common.{◌≡◌, ◌∙◌, subst, ap, map, List, length, arith}
use Rattle.reg_base.specs.declared.memory.Op.{Op}
use Rattle.reg_world.specs.Worlds.{Made}
use Rattle.reg_workload.specs.Plays.{IsPlay}
use Rattle.reg_workload.proofs.Loaded.{load_playable}
use Rattle.reg_workload.proofs.Scripts.{ended_or_full, still_rests}
use Rattle.reg_workload.proofs.seeded.play_seeded.Goals as goal

pub new-requires-clause-playable : goal.new-requires-clause-playable
new-requires-clause-playable g c = rw c.deref.ensures.value (load_playable _ c.work.invariant)

pub returns-clause-play : goal.returns-clause-play
returns-clause-play g c =
    let went = c.in_ok-_ended.ensures.on in
    let work = c.work.inside in
    let same : c.play_turns.new.player.scripts ≡ map (λ v. v.items) work.scripts.items = rw (← c.deref.ensures.value) (went.same ∙ c.in_ok-player.ensures.scripts) in
    rw (← c.work.view_is) (subst (λ (s : List (List Op)). IsPlay g.F.FrontEnd.start work.shape s work.budget c.end.result.world c.end.result.finished) same (c.end.ensures.play work.shape work.budget (went.processes ∙ ap (λ (m : Made). m.processes) c.in_ok-player.ensures.made) (went.registers ∙ ap (λ (m : Made). m.registers) c.in_ok-player.ensures.made) went.few))

pub returns-clause-finished : goal.returns-clause-finished
returns-clause-finished g c = rw (← c.work.view_is) (λ none less.
    ended_or_full c.in_ok-_ended._ended (length c.play_turns.new.player.made.accepted) c.work.inside.budget (λ e. c.end.ensures.rest (still_rests g.F.FrontEnd.start c.play_turns.new.player (c.in_ok-_ended.ensures.ended.0 e))) (λ e. c.in_ok-_ended.ensures.ended.1 e none)
    (let w = ap (λ (m : Made). length m.accepted) c.end.ensures.world in omega (arith, w, less)))
