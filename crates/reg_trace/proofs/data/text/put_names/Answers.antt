use Rattle.std.proofs.Common.{◌<◌, ◌≤◌, [], length, ap, arith}
use Rattle.reg_trace.proofs.LookedBehind.{as_text}
use Rattle.reg_trace.specs.Json.{quoted}
use Rattle.reg_trace.proofs.Joined.{puts_part, puts_list}
use Rattle.reg_trace.proofs.data.text.put_names.Goals as goal

pub loop-place-preserved : goal.loop-place-preserved
loop-place-preserved g c =
    let within : c.loop-place.place < length c.args.names.now = omega arith in
    puts_part g.W.Write.contents c.put.new.self c.loop-place.sink c.put_comma.new.sink c.put_quoted.new.sink quoted c.args.names.now c.loop-place.place [] within c.loop-place.invariant c.put_comma.ensures
    (as_text (ap quoted c.name_at.ensures) c.put_quoted.ensures)

pub returns : goal.returns
returns g c =
    let all : length c.args.names.now ≤ c.loop-place.place = omega arith in
    puts_list g.W.Write.contents c.args.sink.now c.put.new.self c.loop-place.sink c.put-2.new.self quoted c.args.names.now c.loop-place.place all c.put.ensures c.loop-place.invariant c.put-2.ensures
