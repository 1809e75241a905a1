use Rattle.std.proofs.Common.{◌≡◌, ◌∷◌, ◌++◌, [], codes, ap, sym, ◌∙◌, append_assoc}
use Rattle.reg_text.proofs.Sent.{puts_two, puts_as, puts_four}
use Rattle.reg_process.specs.declared.events.Event.TheVariants.{Take}
use Rattle.reg_inputs.specs.Schedules.{event_text}
use Rattle.reg_trace.specs.Traces.{frame_text, puts_line}
use Rattle.reg_trace.proofs.trace_text.put_sent.Goals as goal

pub returns : goal.returns
returns g c =
    let held = g.W.Write.contents in
    let names = c.args.names.now in
    let frame = frame_text names c.args.from c.args.sent.frame in
    let take = event_text names (Take c.args.from c.args.sent.to c.args.sent.place) in
    let end = 41 ∷ 10 ∷ [] in
    let line : codes "    puts " ++ (frame ++ (codes " (" ++ (take ++ end))) ≡ puts_line names c.args.from c.args.sent ++ 10 ∷ [] =
    sym (ap (λ l. codes "    puts " ++ l) (append_assoc frame (codes " (" ++ (take ++ codes ")")) (10 ∷ []) ∙ ap (λ l. frame ++ (codes " (" ++ l)) (append_assoc take (codes ")") (10 ∷ [])))) in
    puts_as held c.args.sink.now c.put-3.new.self (codes "    puts " ++ (frame ++ (codes " (" ++ (take ++ end)))) (puts_line names c.args.from c.args.sent ++ 10 ∷ []) line
    (puts_two held c.args.sink.now c.put.new.self c.put-3.new.self (codes "    puts ") (frame ++ (codes " (" ++ (take ++ end))) c.put.ensures
    (puts_four held c.put.new.self c.put_frame.new.sink c.put-2.new.self c.put_take.new.sink c.put-3.new.self frame (codes " (") take end c.put_frame.ensures c.put-2.ensures c.put_take.ensures c.put-3.ensures))
