use Rattle.std.proofs.Common.{ap, flat_map, subst}
use Rattle.reg_text.specs.Lines.{text_of, lines_by}
use Rattle.reg_text.specs.Writing.{Puts}
use Rattle.reg_text.proofs.Sent.{puts_as}
use Rattle.reg_trace.specs.Moments.{Fact}
use Rattle.reg_trace.specs.Traces.{delivers_lines, holds_line, moment_lines, puts_line}
use Rattle.reg_trace.proofs.Tracing.{moment_put}
use Rattle.reg_trace.proofs.trace_text.put_moment.Goals as goal

pub returns : goal.returns
returns g c =
    let held = g.W.Write.contents in
    let names = c.args.names.now in
    let m = c.moment.inside in
    let f : Fact = record { event = m.event; process = m.process; frame = m.frame; expected = m.expected; clock = m.clock; delivered = m.delivered.items; reply = m.reply; waits = m.waits.items; sent = m.sent.items } in
    let P : Fact → Type 0 = λ x. Puts held c.args.sink.now c.put_all_sent.new.sink (text_of (moment_lines names c.args.number x)) in
    let delivered = puts_as held c.put_clock.new.sink c.put_deliveries.new.sink (text_of (flat_map (delivers_lines names) c.as_slice.result.now)) (text_of (flat_map (delivers_lines names) m.delivered.items)) (ap (λ l. text_of (flat_map (delivers_lines names) l)) c.as_slice.ensures.value) c.put_deliveries.ensures in
    let waits = puts_as held c.put_reply.new.sink c.put_waits.new.sink (lines_by holds_line c.as_slice-2.result.now) (lines_by holds_line m.waits.items) (ap (lines_by holds_line) c.as_slice-2.ensures.value) c.put_waits.ensures in
    let sent = puts_as held c.put_waits.new.sink c.put_all_sent.new.sink (lines_by (puts_line names m.process) c.as_slice-3.result.now) (lines_by (puts_line names m.process) m.sent.items) (ap (lines_by (puts_line names m.process)) c.as_slice-3.ensures.value) c.put_all_sent.ensures in
    subst P c.moment.view_is
    (moment_put held names c.args.number f c.args.sink.now c.put_head.new.sink c.put_takes.new.sink c.put_drops.new.sink c.put_clock.new.sink c.put_deliveries.new.sink c.put_reply.new.sink c.put_waits.new.sink c.put_all_sent.new.sink
    c.put_head.ensures c.put_takes.ensures c.put_drops.ensures c.put_clock.ensures delivered c.put_reply.ensures waits sent)
