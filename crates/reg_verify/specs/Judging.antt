-- Why the steps of a record are no run. It carries a proof: no promise speaks of it.
use Rattle.std.specs.Prelude.{ℕ, ◌≡◌, List}
use Rattle.reg_base.specs.declared.memory.Op.{Op}
use Rattle.reg_base.specs.Shape.{Extent}
use Rattle.reg_front.specs.declared.starts.Start.{Start}
use Rattle.reg_commands.specs.declared.faults.Fault.TheVariants.{OutOfMemory}
use Rattle.reg_verify.specs.declared.faults.VerifyFault.{VerifyFault}
use Rattle.reg_verify.specs.declared.faults.VerifyFault.TheVariants.{Command, Unfaithful}
use Rattle.reg_node.specs.declared.transcripts.recorded.Recorded.{Recorded}
use Rattle.reg_verify.specs.Verifies.{FailsFirst, line_at}

-- there was no memory, or the line is that of the first step with which the steps are no run
abbrev pub BlamesSteps : (Op → ℕ → Start) → Extent → List Recorded → VerifyFault → Type 0
BlamesSteps start shape steps (Command fault) = fault ≡ OutOfMemory
BlamesSteps start shape steps (Unfaithful line) =
    (place : ℕ) × (line ≡ line_at place) × FailsFirst start shape steps place
