use Rattle.std.proofs.Common.{ℕ, List, ◌<◌, get_or, map}
use Rattle.reg_base.specs.declared.memory.Op.{Op}
use Rattle.reg_outcomes.specs.Interleavings.{IsPlayable}
use Rattle.reg_outcomes.proofs.interleavings.scripts.are_playable.Given as goal

-- each script so far can be run
abbrev pub invariant-loop-script : goal.invariant-loop-script
invariant-loop-script g l =
    (k : ℕ) (d : List Op) → k < l.script-index → IsPlayable l.registers (get_or (map (λ v. v.items) l.scripts) k d)
