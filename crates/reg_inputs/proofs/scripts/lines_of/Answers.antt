use Rattle.toml.specs.View.{view}
use Rattle.reg_inputs.proofs.Lists.{few_lines}
use Rattle.reg_inputs.proofs.scripts.lines_of.Goals as goal

pub returns-clause-few : goal.returns-clause-few
returns-clause-few c = rw c.as_slice.ensures.value (few_lines (view c.args.value.now) c.in-Some.lines.now.items c.in-Some.ensures c.requires.short)
