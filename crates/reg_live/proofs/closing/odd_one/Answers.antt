use Rattle.std.proofs.Common.{arith, sym, ◌∙◌}
use Rattle.std.proofs.lemmas.Grind.{common_steps}
use Rattle.reg_live.proofs.Owning.{one_more_each}
use Rattle.reg_live.proofs.closing.odd_one.Goals as goal

pub loop-process-preserved : goal.loop-process-preserved
loop-process-preserved g c = one_more_each c.args.passes.now c.loop-process.process c.count_of.result c.loop-process.invariant c.count_of.ensures c.if-count_of-ne1.false

pub returns-then-passes-processes : goal.returns-then-passes-processes
returns-then-passes-processes g c = record {
  each = λ p lt. c.loop-process.invariant p (let e = c.loop-process-test.false in omega (arith, e, lt));
  all = grind (arith, common_steps);
}

pub returns-then-count_of-ne1 : goal.returns-then-count_of-ne1
returns-then-count_of-ne1 g c = λ one.
    let few = c.loop-process-test.true in
    c.if-count_of-ne1.true (c.count_of.ensures ∙ one.each c.loop-process.process (omega (arith, few)))
