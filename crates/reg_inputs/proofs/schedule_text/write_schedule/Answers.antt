use Rattle.std.proofs.Common.{rules}
use Rattle.reg_inputs.specs.Schedules.{Plan}
use Rattle.reg_inputs.specs.ScheduleText.{schedule_text}
use Rattle.reg_text.proofs.Sent.{went_out}
use Rattle.reg_inputs.proofs.schedule_text.write_schedule.Goals as goal

pub returns : goal.returns
returns g c =
    let plan : Plan = record { shape = c.args.shape; names = c.args.names.now; front = c.args.front; events = c.args.events.now } in
    went_out g.W.Write.contents c.new-sink.result c.put_schedule.new.sink c.args.writer.now _ (schedule_text plan) c.finish.result c.new-sink.ensures.failed c.new-sink.ensures.now (search rules) c.put_schedule.ensures c.finish.ensures
