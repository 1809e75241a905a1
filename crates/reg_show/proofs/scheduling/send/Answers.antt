use Rattle.std.proofs.Common.{◌∙◌, refl, sym}
use Rattle.reg_inputs.specs.Schedules.{Plan}
use Rattle.reg_inputs.specs.ScheduleText.{schedule_text}
use Rattle.reg_commands.proofs.Sending.{writing_failed, flush_failed}
use Rattle.reg_show.proofs.scheduling.send.Goals.{then-is_err-via-then-is_err}
use Rattle.reg_show.proofs.scheduling.send.Goals.{then-is_err-via-else-is_err+then-is_err-2}
use Rattle.reg_show.proofs.scheduling.send.Goals as goal

pub returns-then-is_err : goal.returns-then-is_err
returns-then-is_err g c =
    let held = g.W.Write.contents in
    let plan : Plan = record { shape = c.args.shape; names = c.args.names.now; front = c.args.front; events = c.args.events.now } in
    let written = c.write_schedule.result in
    elim c.then-is_err.branch [
      | then-is_err-via-then-is_err w ↦ (refl, writing_failed held written c.args.writer.now c.write_schedule.new.writer c.then-is_err.writer (schedule_text plan) w.writer-is (sym c.is_err.ensures.value ∙ w.if-is_err.true) c.write_schedule.ensures)
      | then-is_err-via-else-is_err+then-is_err-2 w ↦ (refl, flush_failed held written c.args.writer.now c.write_schedule.new.writer w.flush.new.self c.then-is_err.writer (schedule_text plan) w.writer-is (sym c.is_err.ensures.value ∙ w.if-is_err.false) c.write_schedule.ensures w.flush.ensures.bytes)
    ]
