use Rattle.reg_inputs.proofs.Lists.{few_scripts}
use Rattle.reg_inputs.proofs.values.are_few.Goals as goal

pub returns-then-is_count-clause-value : goal.returns-then-is_count-clause-value
returns-then-is_count-clause-value c =
    few_scripts c.args.values.now c.are_short.result c.is_count.result c.is_count.ensures.value c.if-is_count.true c.are_short.ensures
