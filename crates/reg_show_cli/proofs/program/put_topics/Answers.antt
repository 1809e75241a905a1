use Rattle.std.proofs.Common.{get_or, ap, ◌∙◌, take_all}
use Rattle.std.specs.List.{flat_map}
use Rattle.reg_text.proofs.Sent.{puts_as}
use Rattle.reg_outcomes.proofs.Writing.{puts_next}
use Rattle.reg_show_cli.specs.declared.topics.Topic.TheVariants.{Replay}
use Rattle.reg_show_cli.specs.Topics.{topic_lines, topics}
use Rattle.reg_show_cli.proofs.program.put_topics.Goals as goal

pub loop-topic-preserved : goal.loop-topic-preserved
loop-topic-preserved g c =
    let held = g.W.Write.contents in
    let here = c.as_slice-topic-items.result.now in
    puts_next held c.args.sink.now c.loop-topic.sink c.put.new.self topic_lines here c.loop-topic.topic-index Replay c.loop-topic-test.true c.loop-topic.invariant
    (puts_as held c.loop-topic.sink c.put.new.self c.as_bytes.result.now (topic_lines (get_or here c.loop-topic.topic-index Replay)) (c.as_bytes.ensures.value ∙ c.lines.ensures) c.put.ensures)

pub returns : goal.returns
returns g c =
    puts_as g.W.Write.contents c.args.sink.now c.loop-topic.sink (flat_map topic_lines _) (flat_map topic_lines topics)
    (ap (flat_map topic_lines) (take_all c.loop-topic.topic-index c.as_slice-topic-items.result.now c.loop-topic-test.false ∙ c.as_slice-topic-items.ensures)) c.loop-topic.invariant
