use Rattle.std.proofs.Common.{◌≡◌, map}
use Rattle.reg_inputs.specs.Loads.{IsScript, script_data}
use Rattle.reg_inputs.proofs.Spelled.{Spelled}
use Rattle.reg_inputs.proofs.scripts.scripts_of.Given as goal

abbrev pub invariant-loop-value : goal.invariant-loop-value
invariant-loop-value g l = (l.process ≡ l.value-index) × Spelled (script_data l.names) (IsScript l.names) l.scripts l.value-index (map (λ s. s.items) l.all.items)
