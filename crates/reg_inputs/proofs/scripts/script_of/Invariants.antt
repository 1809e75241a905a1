use Rattle.std.proofs.Common.{◌≡◌}
use Rattle.reg_text.specs.Ops.{OpFits}
use Rattle.reg_inputs.specs.Loads.{op_data}
use Rattle.reg_inputs.proofs.Spelled.{Spelled}
use Rattle.reg_inputs.proofs.scripts.script_of.Given as goal

abbrev pub invariant-loop-value : goal.invariant-loop-value
invariant-loop-value g l =
    (l.place ≡ l.value-index) × Spelled (op_data l.names) (OpFits l.names) l.lines l.value-index l.ops.items
