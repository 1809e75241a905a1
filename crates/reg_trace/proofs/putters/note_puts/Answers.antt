use Rattle.std.proofs.Common.{◌≡◌, ap, ◌∙◌}
use Rattle.reg_trace.specs.Moments.{Fact}
use Rattle.reg_trace.proofs.Putting.{one_put}
use Rattle.reg_trace.proofs.putters.note_puts.Goals as goal

pub loop-sent-preserved : goal.loop-sent-preserved
loop-sent-preserved g c =
    let same : c.deref-sent-items.result.now ≡ c.args.moment.now.sent = c.deref-sent-items.ensures.value ∙ ap (λ (x : Fact). x.sent) c.moment.view_is in
    let own : c.moment.inside.process ≡ c.args.moment.now.process = ap (λ (x : Fact). x.process) c.moment.view_is in
    one_put c.args.moment.now.process c.moment.inside.process c.args.puts c.loop-sent.sent-index c.deref-sent-items.result.now c.args.moment.now.sent _ c.args.putters.now c.loop-sent.putters c.insert.new.self own same c.loop-sent-test.true c.in_ok-insert.ensures.updates c.loop-sent.invariant
