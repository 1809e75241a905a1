use Rattle.std.proofs.Common.{◌++◌, codes}
use Rattle.reg_text.proofs.Sent.{puts_two}
use Rattle.reg_outcomes.specs.TableText.{seed_text}
use Rattle.reg_outcomes.proofs.tables.text.put_firsts.Goals as goal

pub returns : goal.returns
returns g c =
    let held = g.W.Write.contents in
    let t = c.args.tally in
    puts_two held c.args.sink.now c.put_seed.new.sink c.put_seed-2.new.sink (codes "  linearizable " ++ seed_text t.in_time) (codes "  not linearizable " ++ seed_text t.late)
    (puts_two held c.args.sink.now c.put.new.self c.put_seed.new.sink (codes "  linearizable ") (seed_text t.in_time) c.put.ensures c.put_seed.ensures)
    (puts_two held c.put_seed.new.sink c.put-2.new.self c.put_seed-2.new.sink (codes "  not linearizable ") (seed_text t.late) c.put-2.ensures c.put_seed-2.ensures)
