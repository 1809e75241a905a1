-- What is told of a text where there is no heap but one. Of a schedule, a report and a record it is all that is told of
-- them elsewhere.
use Rattle.std.specs.Prelude.{ℕ, ◌≡◌, Bool, true, false, List, ◌++◌}
use Rattle.reg_commands.specs.FaultLines.{fault_line}
use Rattle.reg_commands.specs.Kinds.{kind_of}
use Rattle.reg_commands.specs.declared.faults.Fault.TheVariants.{Workload as WorkloadOf}
use Rattle.reg_commands.specs.declared.kinds.Kind.{Kind}
use Rattle.reg_commands.specs.declared.kinds.Kind.TheVariants.{Report, Schedule, Workload}
use Rattle.reg_inputs.specs.declared.faults.WorkloadFault.{WorkloadFault}
use Rattle.reg_reasons.specs.Records.{TellsRecord, begins_record}
use Rattle.reg_reasons.specs.Tellings.{Tells}

-- The answer begins with the line of a fault of a workload. Of the text nothing is said.
pub record Doubts (answer : List ℕ) : Type 0 where
  pub fault : WorkloadFault
  pub rest : List ℕ
  pub begins : answer ≡ fault_line (WorkloadOf fault) ++ rest

-- Whether a text of this kind is accepted, and the answer that it gets. A workload is accepted in its layout alone.
abbrev pub TellsLent : Kind → Bool → List ℕ → List ℕ → Type 0
TellsLent Report is_accepted answer text = Tells Report is_accepted answer text
TellsLent Schedule is_accepted answer text = Tells Schedule is_accepted answer text
TellsLent Workload true answer text = Tells Workload true answer text
TellsLent Workload false answer text = Doubts answer

-- the same of any text: of one that begins as records do, and of another one by its kind
abbrev pub TellsAnyLent : Bool → Bool → List ℕ → List ℕ → Type 0
TellsAnyLent true is_accepted answer text = TellsRecord is_accepted answer text
TellsAnyLent false is_accepted answer text = TellsLent (kind_of text) is_accepted answer text

-- the text got the answer of its kind: `Wrote` says how it was written
abbrev pub AnswersLent : Bool → (List ℕ → Type 0) → List ℕ → Type 0
AnswersLent is_accepted Wrote text =
    (answer : List ℕ) × TellsAnyLent (begins_record text) is_accepted answer text × Wrote answer
