use Rattle.std.proofs.Common.{◌≤◌, length, map}
use Rattle.reg_text.specs.Lines.{AllFit}
use Rattle.reg_inputs.specs.Loads.{IsScript}
use Rattle.reg_commands.proofs.layout.scripts.scripts_at.Given as goal

abbrev pub invariant-loop-process : goal.invariant-loop-process
invariant-loop-process g l =
    (length l.all.items ≤ l.process) × AllFit (λ _ ops. IsScript l.names ops) (map (λ s. s.items) l.all.items)
