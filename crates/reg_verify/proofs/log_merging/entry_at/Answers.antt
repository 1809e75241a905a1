use Rattle.std.proofs.Common.{arith}
use Rattle.reg_verify.proofs.Gathered.{count_more}
use Rattle.reg_verify.proofs.log_merging.entry_at.Goals as goal

pub loop-log-preserved : goal.loop-log-preserved
loop-log-preserved g c =
    let more = count_more c.args.logs.now c.loop-log.log c.index-logs-log.result c.loop-log-test.true c.index-logs-log.is in
    omega (arith, more, c.loop-log.invariant, c.count_of-count.ensures, c.if-left-count.false)
