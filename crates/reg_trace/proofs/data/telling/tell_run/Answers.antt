use Rattle.std.proofs.Common.{◌≡◌, ◌∙◌, None, ap, refl, sym}
use Rattle.reg_inputs.specs.Schedules.{Plan}
use Rattle.reg_trace.specs.Moments.{moments_of}
use Rattle.reg_world.specs.Worlds.{Made, run_in}
use Rattle.reg_trace.specs.Looks.{looks_of}
use Rattle.reg_trace.proofs.Made.{data_told, same_world}
use Rattle.reg_trace.proofs.data.telling.tell_run.Goals as goal

pub data_of-requires-clause-accepted : goal.data_of-requires-clause-accepted
data_of-requires-clause-accepted g c =
    let ran = c.in_ok-watched.ensures in
    ap (λ (w : Made). (run_in g.F.FrontEnd.start w).accepted) ran.world ∙ (ran.accepted ∙ sym (ap (λ (w : Made). w.accepted) ran.world))

pub data_of-requires-clause-told : goal.data_of-requires-clause-told
data_of-requires-clause-told g c =
    let ran = c.in_ok-watched.ensures in
    ran.told ∙ sym (ap (λ (w : Made). moments_of g.F.FrontEnd.start (record { processes = w.processes; registers = w.registers }) w.accepted) ran.world)

pub data_of-requires-clause-states : goal.data_of-requires-clause-states
data_of-requires-clause-states g c =
    let ran = c.in_ok-watched.ensures in
    ran.states ∙ sym (ap (λ (w : Made). looks_of g.F.FrontEnd.start (record { processes = w.processes; registers = w.registers }) w.accepted) ran.world)

pub returns-in-Ok-clause-data : goal.returns-in-Ok-clause-data
returns-in-Ok-clause-data g c =
    let start = g.F.FrontEnd.start in
    let p : Plan = c.args.schedule in
    let events : c.as_slice.result.now ≡ p.events = c.as_slice.ensures.value ∙ ap (λ (q : Plan). q.events) c.schedule.view_is in
    let shape : c.schedule.inside.shape ≡ p.shape = ap (λ (q : Plan). q.shape) c.schedule.view_is in
    let w = c.in_ok-watched.watched.world in
    data_told start p _ c.args.notes _ c.schedule.inside.front w None c.in-Ok.told.0 (same_world start p c.schedule.inside.shape c.as_slice.result.now w shape events c.in_ok-watched.ensures.world)
    (ap (λ (q : Plan). q.names) c.schedule.view_is) (ap (λ (q : Plan). q.front) c.schedule.view_is) refl c.in-Ok.ensures.data

pub returns-in-Ok-clause-world : goal.returns-in-Ok-clause-world
returns-in-Ok-clause-world g c =
    let start = g.F.FrontEnd.start in
    let p : Plan = c.args.schedule in
    let events : c.as_slice.result.now ≡ p.events = c.as_slice.ensures.value ∙ ap (λ (q : Plan). q.events) c.schedule.view_is in
    let shape : c.schedule.inside.shape ≡ p.shape = ap (λ (q : Plan). q.shape) c.schedule.view_is in
    c.in-Ok.ensures.world ∙ same_world start p c.schedule.inside.shape c.as_slice.result.now c.in_ok-watched.watched.world shape events c.in_ok-watched.ensures.world
