use Rattle.std.proofs.Common.{◌≤◌, length, ap, arith}
use Rattle.reg_trace.proofs.LookedBehind.{◌▸◌, as_text}
use Rattle.reg_trace.proofs.Joined.{line_by, puts_part, puts_lines}
use Rattle.reg_trace.proofs.data.json.put_lines.Goals as goal

pub loop-place-preserved : goal.loop-place-preserved
loop-place-preserved g c =
    let f = g.T.Part.part c.args.names.now in
    puts_part g.W.Write.contents c.put-2.new.self c.loop-place.sink c.put_comma.new.sink c.put-in-loop-place-2.new.self (line_by f) c.args.parts.now c.loop-place.place c.index-parts-place.result c.loop-place-test.true c.loop-place.invariant c.put_comma.ensures
    (as_text (ap (line_by f) c.index-parts-place.is) (c.put-in-loop-place.ensures ▸ c.put-in-loop-place-2.ensures))

pub returns : goal.returns
returns g c =
    let all : length c.args.parts.now ≤ c.loop-place.place = omega arith in
    as_text c.as_bytes.ensures.value c.put.ensures
    ▸ puts_lines g.W.Write.contents c.put.new.self c.put-2.new.self c.loop-place.sink c.put-3.new.self (g.T.Part.part c.args.names.now) c.args.parts.now c.loop-place.place all c.put-2.ensures c.loop-place.invariant c.put-3.ensures
