use Rattle.toml.specs.View.{view}
use Rattle.reg_inputs.proofs.Lists.{script_is}
use Rattle.reg_inputs.proofs.values.is_script.Goals as goal

pub returns-in-Some : goal.returns-in-Some
returns-in-Some c = script_is (view c.args.value.now) c.in-Some.lines.now.items c.are_strings.result c.in-Some.ensures (rw (← c.deref.ensures.value) c.are_strings.ensures)
