use Rattle.std.proofs.Common.{◌<◌, length, arith}
use Rattle.std.proofs.lemmas.Option.{slice_get_within}
use Rattle.reg_verify.proofs.Gathered.{agree_more, at_index}
use Rattle.reg_verify.proofs.gathering.check_heads.Goals as goal

pub returns-in-Some-clause-fault : goal.returns-in-Some-clause-fault
returns-in-Some-clause-fault g c =
    let some : 0 < length c.args.logs.now = omega (arith, c.loop-at-test.true) in
    let begins = at_index c.args.logs.now 0 c.index-logs-0.result some c.index-logs-0.is in
    record {
      first = c.index-logs-0.result;
      begins = begins;
      journal = c.index-logs-at.result;
      at = at_index c.args.logs.now c.loop-at.at c.index-logs-at.result c.loop-at-test.true c.index-logs-at.is;
      differ = c.in-Some.ensures;
      before = c.loop-at.invariant c.index-logs-0.result begins;
    }

pub loop-at-preserved : goal.loop-at-preserved
loop-at-preserved g c =
    let some : 0 < length c.args.logs.now = omega (arith, c.loop-at-test.true) in
    agree_more c.args.logs.now c.loop-at.at c.index-logs-0.result c.index-logs-at.result (at_index c.args.logs.now 0 c.index-logs-0.result some c.index-logs-0.is)
    (at_index c.args.logs.now c.loop-at.at c.index-logs-at.result c.loop-at-test.true c.index-logs-at.is) c.in_default.ensures c.loop-at.invariant

pub returns-clause-agree : goal.returns-clause-agree
returns-clause-agree g c = λ first begins k j at.
    let within = slice_get_within c.args.logs.now k j at in
    c.loop-at.invariant first begins k j (omega (arith, within, c.loop-at-test.false)) at
