use Rattle.std.proofs.Common.{arith, ◌<◌, length}
use Rattle.reg_commands.specs.Layout.{quoted}
use Rattle.reg_commands.proofs.Joined.{puts_item}
use Rattle.reg_commands.proofs.layout.laying.put_names_joined.Goals as goal

pub loop-place-preserved : goal.loop-place-preserved
loop-place-preserved g c =
    let within : c.loop-place.place < length c.args.names.now = omega arith in
    puts_item g.W.Write.contents c.args.sink.now c.loop-place.sink c.put_name_at.new.sink quoted c.args.names.now c.loop-place.place _ within c.loop-place.invariant c.put_name_at.ensures
