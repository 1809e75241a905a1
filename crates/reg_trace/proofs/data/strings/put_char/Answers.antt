use Rattle.reg_trace.proofs.Spelling.{puts_at}
use Rattle.reg_trace.specs.Strings.{unit_text}
use Rattle.reg_trace.proofs.data.strings.put_char.Goals as goal

pub loop-unit-preserved : goal.loop-unit-preserved
loop-unit-preserved g c =
    puts_at g.W.Write.contents c.args.sink.now c.loop-unit.sink c.put_unit.new.sink unit_text c.encode_utf16-encoded.result.now c.loop-unit.unit-index 0 c.loop-unit-test.true c.loop-unit.invariant c.put_unit.ensures
