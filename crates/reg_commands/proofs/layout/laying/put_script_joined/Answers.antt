use Rattle.std.proofs.Common.{arith, ◌<◌, length}
use Rattle.reg_text.specs.Ops.{op_text}
use Rattle.reg_commands.specs.Layout.{quoted}
use Rattle.reg_commands.proofs.Joined.{puts_item}
use Rattle.reg_commands.proofs.layout.laying.put_script_joined.Goals as goal

pub loop-place-preserved : goal.loop-place-preserved
loop-place-preserved g c =
    let within : c.loop-place.place < length c.args.ops.now = omega arith in
    puts_item g.W.Write.contents c.args.sink.now c.loop-place.sink c.put_op_at.new.sink (λ op. quoted (op_text c.args.names.now op)) c.args.ops.now c.loop-place.place _ within c.loop-place.invariant c.put_op_at.ensures
