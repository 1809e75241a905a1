use Rattle.std.proofs.Common.{◌≡◌, ◌+◌, ◌<◌, ◌++◌, length, take, ap, sym, ◌∙◌, arith}
use Rattle.reg_base.specs.declared.limits.TheConstants.{MOST_EVENTS}
use Rattle.reg_verify.specs.Gathers.{joined, steps_of}
use Rattle.reg_verify.proofs.Gathered.{count_more, joined_more, too_many}
use Rattle.reg_verify.proofs.log_merging.joined.Goals as goal

pub returns-then-count_of-len-clause-fault : goal.returns-then-count_of-len-clause-fault
returns-then-count_of-len-clause-fault g c =
    let so_far = ap length c.loop-at.invariant.steps in
    let many : MOST_EVENTS < length (joined (take c.loop-at.at c.args.logs.now)) + length c.index-logs-at.result.entries = omega (arith, so_far, c.count_of.ensures, c.len.ensures, c.if-count_of-len.true, c.loop-at.steps.ok.0, c.loop-at.invariant.few) in
    record {
      first = c.requires.0;
      gathered = c.requires.1;
      many = too_many c.args.logs.now c.loop-at.at MOST_EVENTS c.index-logs-at.result c.loop-at-test.true c.index-logs-at.is many;
    }

pub loop-at-preserved : goal.loop-at-preserved
loop-at-preserved g c =
    let js = c.args.logs.now in
    let more = joined_more js c.loop-at.at c.index-logs-at.result c.loop-at-test.true c.index-logs-at.is in
    let count = count_more js c.loop-at.at c.index-logs-at.result c.loop-at-test.true c.index-logs-at.is in
    let steps : c.add_steps.new.steps.items ≡ joined (take (c.loop-at.at + 1) js) =
    c.in_ok-add_steps.ensures ∙ (ap (λ l. l ++ steps_of c.index-logs-at.result) c.loop-at.invariant.steps ∙ sym more) in
    let all = ap length steps in
    let so_far = ap length c.loop-at.invariant.steps in
    record { steps = steps; few = omega (arith, all, so_far, count, c.count_of.ensures, c.len.ensures, c.if-count_of-len.false, c.loop-at.steps.ok.0, c.loop-at.invariant.few) }
