use Rattle.std.proofs.Common.{Some, None, sym, arith}
use Rattle.std.proofs.lemmas.Option.{slice_get_past}
use Rattle.reg_workload.specs.declared.choices.Choice.TheVariants.{Call as CallNext, Tick as PutAgain}
use Rattle.reg_workload.specs.Seeded.{tick_choices}
use Rattle.reg_workload.proofs.Listing.{at_call, at_take, at_tick}
use Rattle.reg_workload.proofs.Placing.{calls_are, ticks_are, call_stands, tick_stands}
use Rattle.reg_workload.proofs.choices.Chances.nth.Goals as goal

pub returns-in-Ok : goal.returns-in-Ok
returns-in-Ok g c =
    let start = g.F.FrontEnd.start in
    let s = c.args.player.now in
    sym (at_call start s c.args.place (CallNext c.in-Ok.process) (call_stands start s c.args.self.now c.requires.listed c.in-Ok.process c.args.place c.in-Ok.ensures.set c.in-Ok.ensures.count))

pub returns-in-Ok-nth_take : goal.returns-in-Ok-nth_take
returns-in-Ok-nth_take g c =
    let start = g.F.FrontEnd.start in
    let s = c.args.player.now in
    let calls = calls_are start s c.args.self.now c.requires.listed in
    let left = c.in-Err.ensures.count in
    sym (at_take start s c.in-Err.left c.args.place c.in-Ok-nth_take.choice (omega (arith, calls, left)) c.in-Ok-nth_take.ensures)

pub returns-in-Ok-nth_bit : goal.returns-in-Ok-nth_bit
returns-in-Ok-nth_bit g c =
    let start = g.F.FrontEnd.start in
    let s = c.args.player.now in
    let calls = calls_are start s c.args.self.now c.requires.listed in
    let left = c.in-Err.ensures.count in
    let p = c.in-Ok-nth_bit.process in
    sym (at_tick start s c.in-Err-nth_take.left c.in-Err.left c.args.place (Some (PutAgain p)) (omega (arith, calls, left)) c.in-Err-nth_take.ensures
    (tick_stands start s c.args.self.now c.requires.listed p c.in-Err-nth_take.left c.in-Ok-nth_bit.ensures.set c.in-Ok-nth_bit.ensures.count))

pub returns-in-Err-nth_bit : goal.returns-in-Err-nth_bit
returns-in-Err-nth_bit g c =
    let start = g.F.FrontEnd.start in
    let s = c.args.player.now in
    let calls = calls_are start s c.args.self.now c.requires.listed in
    let ticks = ticks_are start s c.args.self.now c.requires.listed in
    let left = c.in-Err.ensures.count in
    let e = c.in-Err-nth_bit.ensures.count in
    sym (at_tick start s c.in-Err-nth_take.left c.in-Err.left c.args.place None (omega (arith, calls, left)) c.in-Err-nth_take.ensures
    (slice_get_past (tick_choices start s s.made.processes) c.in-Err-nth_take.left (omega (arith, e, ticks))))
