use Rattle.std.proofs.Common.{take}
use Rattle.std.specs.List.{flat_map}
use Rattle.reg_text.specs.Writing.{Puts}
use Rattle.reg_show_cli.specs.Topics.{topic_lines}
use Rattle.reg_show_cli.proofs.program.put_topics.Given as goal

-- the commands so far
abbrev pub invariant-loop-topic : goal.invariant-loop-topic
invariant-loop-topic g l =
    Puts g.W.Write.contents l.initial.sink l.sink (flat_map topic_lines (take l.topic-index l.topic-items))
