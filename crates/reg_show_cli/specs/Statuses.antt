-- What a status says of what was asked for, with what the reader, the writer and the error stream show of themselves.
use Rattle.std.specs.Prelude.{ℕ, true, false, ◌≡◌, ◌≢◌, ◌⊎◌, ◌≤◌, ⊤, Bool, List, [], ◌∷◌, ◌++◌, length, codes, Option}
use Rattle.std.specs.Prelude.{None, IfSome}
use Rattle.reg_base.specs.declared.limits.TheConstants.{LONGEST_INPUT}
use Rattle.reg_text.specs.Writing.{AppendsPart}
use Rattle.reg_commands.specs.declared.faults.Fault.{Fault}
use Rattle.reg_commands.specs.declared.faults.Fault.TheVariants.{Output}
use Rattle.reg_commands.specs.FaultLines.{fault_line}
use Rattle.reg_commands.specs.Answers.{Answers as AnswersCommand, Blames as BlamesCommand}
use Rattle.reg_commands.specs.declared.command.Command.TheVariants.{Check}
use Rattle.reg_commands.specs.Replays.{start_of}
use Rattle.reg_commands.specs.Statuses.{Stops as StopsCommand, Tells as TellsCommand}
use Rattle.reg_commands.specs.Works.{BlamesDocument, OfDocument}
use Rattle.reg_inputs.specs.Loads.{Load}
use Rattle.reg_outcomes.specs.AllText.{ShowsAll}
use Rattle.reg_show.specs.AllOutcomes.{StopsAll}
use Rattle.reg_show.specs.Finding.{BlamesFind, Finds}
use Rattle.reg_show.specs.Faults.{show_line}
use Rattle.reg_show.specs.declared.faults.ShowFault.{ShowFault}
use Rattle.reg_show.specs.declared.faults.ShowFault.TheVariants.{Command}
use Rattle.reg_show.specs.OneOutcome.{ShowsOutcome, StopsOutcome}
use Rattle.reg_show.specs.Outcomes.{ShowsOutcomes, StopsPlays}
use Rattle.reg_show.specs.Schedules.{ShowsSchedule, StopsSchedule}
use Rattle.reg_show.specs.Seeds.{is_fair, reseeded, seed_of}
use Rattle.reg_show.specs.Shorts.{ShowsShort, StopsShort}
use Rattle.reg_show.specs.Showings.{Blames, Shows}
use Rattle.reg_verify.specs.Merges.{BlamesMerge, Merges}
use Rattle.reg_verify.specs.StoryTexts.{BlamesStory, TellsStory}
use Rattle.reg_verify.specs.Verifies.{BlamesAccount, Verifies, verify_line}
use Rattle.reg_verify.specs.declared.faults.VerifyFault.{VerifyFault}
use Rattle.reg_verify.specs.declared.faults.VerifyFault.TheVariants.{Command as VerifyCommand}
use Rattle.reg_show_cli.specs.Topics.{help_text}
use Rattle.reg_show_cli.specs.declared.words.Asked.{Asked}
use Rattle.reg_show_cli.specs.declared.words.Asked.TheVariants.{AllOutcomes, Find, Help, Judge, Merge, Outcome}
use Rattle.reg_show_cli.specs.declared.words.Asked.TheVariants.{Outcomes, Schedule, ShortSchedule, Show, Story}
use Rattle.reg_show_cli.specs.declared.words.Asked.TheVariants.{Text as OfText, Verify, Version, Why}
use Rattle.reg_reasons.specs.Tellings.{Answers, Halts}
use Rattle.reg_observed.specs.Commands.{IsAnyJudged}
use Rattle.reg_observed.specs.declared.command.CommandFault.{CommandFault as JudgeFault}
use Rattle.reg_observed.specs.declared.command.CommandFault.TheVariants.{Command as JudgeCommand}
use Rattle.std.specs.Io.KnownBytes.{Appends}

-- What a command promises of its status: which faults it has, and what each tells, beside those that all commands have;
-- whether its answer may be a no; what a fault says of the text; and what the text is, whether the answer is a yes, and
-- how it was written.
pub record Promise : Type 1 where
  pub Refusal : Type 0
  pub of_fault : Fault → Refusal
  pub line : Refusal → List ℕ
  pub Denies : Type 0
  pub IsBlamed : Refusal → List ℕ → Type 0
  pub IsAnswer : Bool → (List ℕ → Type 0) → List ℕ → Type 0

-- of the workload that the text says this is written, or it is told why not
abbrev pub of_work : ((List ℕ → Type 0) → Load → Type 0) → (ShowFault → Load → Type 0) → Promise
of_work Writes StopsWork =
    record {
      Refusal = ShowFault;
      of_fault = Command;
      line = show_line;
      Denies = ⊥;
      IsBlamed = BlamesDocument Command StopsWork;
      IsAnswer = λ _. OfDocument Writes;
    }

-- no text is read: of what goes with one nothing is promised
abbrev pub of_no_text : Promise
of_no_text =
    record {
      Refusal = Fault;
      of_fault = λ fault. fault;
      line = fault_line;
      Denies = ⊥;
      IsBlamed = λ _ _. ⊥;
      IsAnswer = λ _ _ _. ⊥;
    }

-- what is promised of what the words ask for
abbrev pub promise : Asked → Promise
promise (OfText command) =
    record {
      Refusal = Fault;
      of_fault = λ fault. fault;
      line = fault_line;
      Denies = command ≡ Check;
      IsBlamed = BlamesCommand command;
      IsAnswer = AnswersCommand command;
    }
promise (Show view) =
    record {
      Refusal = ShowFault;
      of_fault = Command;
      line = show_line;
      Denies = ⊥;
      IsBlamed = Blames view;
      IsAnswer = λ _. Shows view;
    }
promise (Schedule player) =
    of_work (λ Wrote work. ShowsSchedule (is_fair player) (start_of work.front) Wrote (reseeded (seed_of player) work))
    (λ fault _. StopsSchedule fault)
promise (ShortSchedule player) =
    of_work (λ Wrote work. ShowsShort (is_fair player) (start_of work.front) Wrote (reseeded (seed_of player) work))
    (λ fault work. StopsShort (is_fair player) (start_of work.front) (reseeded (seed_of player) work) fault)
promise (Outcomes plays seed) =
    of_work (λ Wrote work. ShowsOutcomes plays (start_of work.front) Wrote (reseeded seed work))
    (λ fault work. StopsPlays plays (start_of work.front) (reseeded seed work) fault)
promise AllOutcomes =
    of_work (λ Wrote work. ShowsAll work.scripts work.shape.registers Wrote) (λ fault work. StopsAll work fault)
promise (Outcome number) =
    of_work (λ Wrote work. ShowsOutcome number (start_of work.front) Wrote work)
    (λ fault work. StopsOutcome number work fault)
promise (Find kind) =
    record {
      Refusal = ShowFault;
      of_fault = Command;
      line = show_line;
      Denies = ⊤;
      IsBlamed = BlamesFind kind;
      IsAnswer = Finds kind;
    }
promise Why =
    record {
      Refusal = Fault;
      of_fault = λ fault. fault;
      line = fault_line;
      Denies = ⊤;
      IsBlamed = Halts;
      IsAnswer = Answers;
    }
promise Verify =
    record {
      Refusal = VerifyFault;
      of_fault = VerifyCommand;
      line = verify_line;
      Denies = ⊥;
      IsBlamed = BlamesAccount;
      IsAnswer = λ _. Verifies;
    }
promise Merge =
    record {
      Refusal = VerifyFault;
      of_fault = VerifyCommand;
      line = verify_line;
      Denies = ⊥;
      IsBlamed = BlamesMerge;
      IsAnswer = λ _. Merges;
    }
promise Story =
    record {
      Refusal = Fault;
      of_fault = λ fault. fault;
      line = fault_line;
      Denies = ⊤;
      IsBlamed = BlamesStory;
      IsAnswer = TellsStory;
    }
promise (Judge flags) =
    record {
      Refusal = JudgeFault;
      of_fault = JudgeCommand;
      line = λ _. [];
      Denies = ⊤;
      IsBlamed = λ _ _. ⊤;
      IsAnswer = IsAnyJudged flags;
    }
promise (Help topic) = of_no_text
promise Version = of_no_text

-- Status 0: what was asked for is the answer to the input, which is not too long; or the text of the help or of the
-- version was written.
abbrev pub Obeys : List ℕ → Asked → Option (List ℕ) → (List ℕ → Type 0) → Type 0
Obeys version (Help topic) input Wrote = Wrote (help_text topic)
Obeys version Version input Wrote = Wrote version
Obeys version asked input Wrote =
    IfSome input (λ xs. length xs ≤ LONGEST_INPUT) × IfSome input ((promise asked).IsAnswer true Wrote)

-- Status 1: the answer is a no, which only check, why, find, story and judge have; or the line of a fault was told, or
-- a first part of it. The fault holds of the input, and nothing was written unless the writer failed; then a first
-- part of an answer was. Of what is told where a history of JSON lines is refused no clause speaks. Where help or
-- the version was asked for, the writer failed.
abbrev pub Stops : Asked → Option (List ℕ) → Type 0 → Option (List ℕ) → Option (List ℕ) → Type 0 → Option (List ℕ)
    → Option (List ℕ) → Type 0
Stops (Judge flags) input unwritten old new untold was is =
    (IfSome input ((promise (Judge flags)).IsAnswer false (Appends old new)) × untold)
    ⊎ ((f : JudgeFault) × (f ≢ JudgeCommand Output → unwritten))
Stops (Help topic) input unwritten old new untold was is = AppendsPart was is (fault_line Output)
Stops Version input unwritten old new untold was is = AppendsPart was is (fault_line Output)
Stops asked input unwritten old new untold was is =
    StopsCommand (promise asked).Denies (promise asked).of_fault (promise asked).line (promise asked).IsBlamed
    (promise asked).IsAnswer input unwritten old new untold was is

-- what status 1 says of the error stream alone
abbrev pub Tells : Asked → Type 0 → Option (List ℕ) → Option (List ℕ) → Type 0
Tells (Judge flags) untold was is = ⊤
Tells (Help topic) untold was is = AppendsPart was is (fault_line Output)
Tells Version untold was is = AppendsPart was is (fault_line Output)
Tells asked untold was is =
    TellsCommand (promise asked).Denies (promise asked).of_fault (promise asked).line (promise asked).IsBlamed untold
    was is

-- the line for words that there was no memory to read, with its line feed
abbrev pub memory_line : List ℕ
memory_line = codes "out of memory" ++ 10 ∷ []
