use Rattle.std.proofs.Common.{◌≤◌, length}
use Rattle.reg_text.specs.Lines.{AllFit}
use Rattle.reg_text.specs.Ops.{OpFits}
use Rattle.reg_commands.proofs.layout.scripts.script_at.Given as goal

abbrev pub invariant-loop-place : goal.invariant-loop-place
invariant-loop-place g l = (length l.ops.items ≤ l.place) × AllFit (λ _ op. OpFits l.names op) l.ops.items
