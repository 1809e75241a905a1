use Rattle.std.proofs.Common.{codes}
use Rattle.reg_outcomes.specs.TableText.{firsts_text, shortest_text, time_text}
use Rattle.reg_text.proofs.Sent.{puts_four}
use Rattle.reg_outcomes.proofs.tables.text.put_play.Goals as goal

pub returns : goal.returns
returns g c =
    let t = c.args.tally in
    puts_four g.W.Write.contents c.args.sink.now c.put_time.new.sink c.put.new.self c.put_shortest.new.sink c.put_firsts.new.sink
    (time_text t.in_time) (codes "  ") (shortest_text t) (firsts_text t) c.put_time.ensures c.put.ensures c.put_shortest.ensures c.put_firsts.ensures
