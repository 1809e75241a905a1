use Rattle.std.proofs.Common.{ℕ, ◌∷◌, ◌++◌, [], codes, subst}
use Rattle.std.specs.Fmt.{decimal}
use Rattle.reg_text.specs.Writing.{Puts}
use Rattle.reg_inputs.specs.Schedules.{Plan}
use Rattle.reg_inputs.proofs.Writing.{schedule_put}
use Rattle.reg_inputs.proofs.schedule_text.put_schedule.Goals as goal

pub returns : goal.returns
returns g c =
    let held = g.W.Write.contents in
    let p : Plan = record { shape = c.args.shape; names = c.args.names.now; front = c.args.front; events = c.args.events.now } in
    let P : ℕ → Type 0 = λ n. Puts held c.args.sink.now c.put_processes.new.sink (codes "processes " ++ decimal n ++ 10 ∷ []) in
    schedule_put held p c.args.sink.now c.put_processes.new.sink c.put_registers.new.sink c.put_front.new.sink c.put_events.new.sink
    (subst P c.processes.ensures.value c.put_processes.ensures) c.put_registers.ensures c.put_front.ensures c.put_events.ensures
