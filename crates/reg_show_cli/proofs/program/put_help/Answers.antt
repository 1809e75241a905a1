use Rattle.std.proofs.Common.{◌++◌, ap, ap₂, sym, ◌∙◌}
use Rattle.std.specs.List.{flat_map}
use Rattle.reg_text.proofs.Sent.{puts_as, puts_two}
use Rattle.reg_show_cli.specs.Topics.{help_text, topic_lines, topics}
use Rattle.reg_show_cli.proofs.program.put_help.Goals as goal

pub returns-in-None : goal.returns-in-None
returns-in-None g c =
    let held = g.W.Write.contents in
    let first = c.as_bytes-in-None.result.now in
    let all = flat_map topic_lines topics in
    let last = c.as_bytes-in-None-2.result.now in
    puts_as held c.args.sink.now c.put-in-None-2.new.self (first ++ (all ++ last)) (help_text c.args.topic)
    (ap₂ (λ x y. x ++ (all ++ y)) c.as_bytes-in-None.ensures.value c.as_bytes-in-None-2.ensures.value ∙ sym (ap help_text c.in-None.is))
    (puts_two held c.args.sink.now c.put-in-None.new.self c.put-in-None-2.new.self first (all ++ last) c.put-in-None.ensures
    (puts_two held c.put-in-None.new.self c.put_topics.new.sink c.put-in-None-2.new.self all last c.put_topics.ensures c.put-in-None-2.ensures))
