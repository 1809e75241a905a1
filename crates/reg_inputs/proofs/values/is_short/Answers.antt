use Rattle.std.proofs.Common.{arith}
use Rattle.toml.specs.View.{view}
use Rattle.reg_inputs.proofs.Lists.{short_is}
use Rattle.reg_inputs.proofs.values.is_short.Goals as goal

pub returns-in-Some : goal.returns-in-Some
returns-in-Some c = short_is (view c.args.value.now) c.in-Some.lines.now.items c.len.result c.in-Some.ensures (omega (arith, c.in-Some.lines.now.ok.0))
