use Rattle.std.proofs.Common.{arith}
use Rattle.reg_links.proofs.Leasts.{least_low}
use Rattle.reg_links.proofs.fanout.least_again.Goals as goal

pub returns-then-counts-slowest : goal.returns-then-counts-slowest
returns-then-counts-slowest c =
    let low = least_low c.args.next c.args.counts.now c.args.slowest.now (omega arith) in
    omega (arith, low)
