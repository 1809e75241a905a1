-- What a command tells over memory that its caller lends.
use Rattle.std.specs.Prelude.{ℕ, ⊤, ◌≡◌, ◌≢◌, ◌≤◌, ◌⊎◌, Bool, true, false, List, [], None, Some, length}
use Rattle.std.specs.Io.KnownBytes.{Appends}
use Rattle.reg_base.specs.declared.limits.TheConstants.{LONGEST_INPUT}
use Rattle.reg_commands.specs.Answers.{Answers, Blames}
use Rattle.reg_commands.specs.FaultLines.{fault_line}
use Rattle.reg_commands.specs.Lent.{Fills, IsTold}
use Rattle.reg_commands.specs.declared.command.Command.{Command}
use Rattle.reg_commands.specs.declared.command.Command.TheVariants.{Check}
use Rattle.reg_commands.specs.declared.faults.Fault.{Fault}
use Rattle.reg_commands.specs.declared.faults.Fault.TheVariants.{Output}
use Rattle.reg_commands.specs.declared.lent.Lengths.{Lengths}
use Rattle.reg_observed.specs.Commands.{IsAnyJudged}
use Rattle.reg_observed.specs.declared.command.CommandFault.{CommandFault}
use Rattle.reg_observed.specs.declared.command.CommandFault.TheVariants.{Command as JudgeCommand}
use Rattle.reg_observed.specs.declared.flags.JudgeFlags.{JudgeFlags}
use Rattle.reg_verify.specs.Merges.{BlamesMerge, Merges}
use Rattle.reg_verify.specs.StoryTexts.{BlamesStory, TellsStory as StoryAnswer}
use Rattle.reg_verify.specs.Verifies.{BlamesAccount, Verifies, verify_line}
use Rattle.reg_verify.specs.declared.faults.VerifyFault.TheVariants.{Command as VerifyCommand}

-- The status, the answer and the line of a fault that a command gives to a text.
abbrev pub IsAnswer : Command → List ℕ → ℕ → List ℕ → List ℕ → Type 0
IsAnswer command = IsTold (command ≡ Check) (λ (fault : Fault). fault) fault_line (Blames command) (Answers command)

-- the status, the report and the line of a fault that the check of a record gives to a text
abbrev pub IsVerdict : List ℕ → ℕ → List ℕ → List ℕ → Type 0
IsVerdict = IsTold ⊥ VerifyCommand verify_line BlamesAccount (λ _. Verifies)

-- the status, the record in another order and the line of a fault that the merge gives to a text
abbrev pub IsMerged : List ℕ → ℕ → List ℕ → List ℕ → Type 0
IsMerged = IsTold ⊥ VerifyCommand verify_line BlamesMerge (λ _. Merges)

-- the status, the line that is told of reports in a row and the line of a fault that are given to a text
abbrev pub IsStoryTold : List ℕ → ℕ → List ℕ → List ℕ → Type 0
IsStoryTold = IsTold ⊤ (λ (fault : Fault). fault) fault_line BlamesStory StoryAnswer

-- what a command tells of a text
abbrev pub Tells : Command → List ℕ → ℕ → List ℕ → List ℕ → List ℕ → List ℕ → Lengths → Type 0
Tells command text status old new errors_old errors_new lengths =
    Fills (IsAnswer command text) status old new errors_old errors_new lengths

-- what the check of a record tells of a text
abbrev pub TellsVerdict : List ℕ → ℕ → List ℕ → List ℕ → List ℕ → List ℕ → Lengths → Type 0
TellsVerdict text status old new errors_old errors_new lengths =
    Fills (IsVerdict text) status old new errors_old errors_new lengths

-- what the merge tells of a text
abbrev pub TellsMerged : List ℕ → ℕ → List ℕ → List ℕ → List ℕ → List ℕ → Lengths → Type 0
TellsMerged text status old new errors_old errors_new lengths =
    Fills (IsMerged text) status old new errors_old errors_new lengths

-- what is told of the reports that a text is
abbrev pub TellsStory : List ℕ → ℕ → List ℕ → List ℕ → List ℕ → List ℕ → Lengths → Type 0
TellsStory text status old new errors_old errors_new lengths =
    Fills (IsStoryTold text) status old new errors_old errors_new lengths

-- how the judge of histories is asked: the usual first value is meant
abbrev pub judge_flags : Bool → JudgeFlags
judge_flags report = record { first = None; report = report }

-- The status, the answer and the line of a refusal that the judge of histories gives to a text: what is said of
-- `judge_text`.
pub record IsJudgement (flags : JudgeFlags) (text : List ℕ) (status : ℕ) (answer told : List ℕ) : Type 0 where
  pub range : status ≤ 1
  pub within : status ≡ 0 → length text ≤ LONGEST_INPUT
  pub found : status ≡ 0 → IsAnyJudged flags true (Appends (Some []) (Some answer)) text
  pub none : status ≡ 1
      → (IsAnyJudged flags false (Appends (Some []) (Some answer)) text × (told ≡ []))
      ⊎ ((f : CommandFault) × (f ≢ JudgeCommand Output → answer ≡ []))
  pub quiet : status ≡ 0 → told ≡ []

-- what the judge of histories tells of a text
abbrev pub TellsJudgement : JudgeFlags → List ℕ → ℕ → List ℕ → List ℕ → List ℕ → List ℕ → Lengths → Type 0
TellsJudgement flags text status old new errors_old errors_new lengths =
    Fills (IsJudgement flags text) status old new errors_old errors_new lengths
