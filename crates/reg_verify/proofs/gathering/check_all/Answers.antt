use Rattle.std.proofs.Common.{length}
use Rattle.reg_verify.proofs.Gathered.{all_more, found}
use Rattle.reg_verify.proofs.gathering.check_all.Goals as goal

pub loop-process-preserved : goal.loop-process-preserved
loop-process-preserved g c =
    all_more c.args.logs.now c.loop-process.process c.loop-process.invariant (found c.args.logs.now c.loop-process.process (length c.args.logs.now) c.find_log.result c.if-is_none.ensures c.find_log.ensures)
