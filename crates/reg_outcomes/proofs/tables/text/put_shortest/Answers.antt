use Rattle.std.proofs.Common.{◌++◌, codes}
use Rattle.std.specs.Fmt.{decimal}
use Rattle.reg_text.specs.Columns.{to_right}
use Rattle.reg_text.proofs.Sent.{puts_two}
use Rattle.reg_outcomes.proofs.tables.text.put_shortest.Goals as goal

pub returns : goal.returns
returns g c =
    let t = c.args.tally in
    puts_two g.W.Write.contents c.args.sink.now c.put_right.new.sink c.put_number.new.sink (to_right 5 (decimal t.events)) (codes " events  seed " ++ decimal t.seed) c.put_right.ensures c.put_number.ensures
