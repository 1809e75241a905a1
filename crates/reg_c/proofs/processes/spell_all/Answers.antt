use Rattle.reg_c.proofs.Spelled.{spelled_more}
use Rattle.reg_c.proofs.processes.spell_all.Goals as goal

pub loop-put-preserved : goal.loop-put-preserved
loop-put-preserved c =
    spelled_more c.args.puts.now c.loop-put.put-index _ c.loop-put.bytes.items c.spell.new.bytes.items c.loop-put-test.true c.loop-put.invariant c.in_ok-spell.ensures
