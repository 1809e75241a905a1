use Rattle.std.proofs.Common.{[], get_or, ap}
use Rattle.reg_text.proofs.Sent.{puts_as, puts_two}
use Rattle.reg_commands.specs.Layout.{between, quoted}
use Rattle.reg_commands.proofs.layout.laying.put_name_at.Goals as goal

pub returns : goal.returns
returns g c =
    let held = g.W.Write.contents in
    let name = get_or c.args.names.now c.args.place [] in
    puts_two held c.args.sink.now c.put_between.new.sink c.put_quoted.new.sink (between c.args.place) (quoted name) c.put_between.ensures
    (puts_as held c.put_between.new.sink c.put_quoted.new.sink (quoted c.name_at-name.result.now) (quoted name) (ap quoted c.name_at-name.ensures) c.put_quoted.ensures)
