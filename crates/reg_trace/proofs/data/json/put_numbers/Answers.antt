use Rattle.std.proofs.Common.{◌≤◌, length, arith}
use Rattle.std.specs.Fmt.{decimal}
use Rattle.reg_trace.proofs.Joined.{puts_part, puts_list}
use Rattle.reg_trace.proofs.data.json.put_numbers.Goals as goal

pub loop-place-preserved : goal.loop-place-preserved
loop-place-preserved g c =
    puts_part g.W.Write.contents c.put.new.self c.loop-place.sink c.put_comma.new.sink c.put_number.new.sink decimal c.args.numbers.now c.loop-place.place 0 c.loop-place-test.true c.loop-place.invariant c.put_comma.ensures c.put_number.ensures

pub returns : goal.returns
returns g c =
    let all : length c.args.numbers.now ≤ c.loop-place.place = omega arith in
    puts_list g.W.Write.contents c.args.sink.now c.put.new.self c.loop-place.sink c.put-2.new.self decimal c.args.numbers.now c.loop-place.place all c.put.ensures c.loop-place.invariant c.put-2.ensures
