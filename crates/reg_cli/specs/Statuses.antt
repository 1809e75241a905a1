-- What a status says of the command that was asked for, with what the reader, the writer and the error stream show of
-- themselves.
use Rattle.std.specs.Prelude.{ℕ, ◌≡◌, ◌≢◌, ◌≤◌, ◌⊎◌, true, false, List, [], ◌∷◌, ◌++◌, length, codes, Option, IfSome}
use Rattle.std.specs.Io.KnownBytes.{Appends}
use Rattle.reg_base.specs.declared.limits.TheConstants.{LONGEST_INPUT}
use Rattle.reg_text.specs.Writing.{AppendsPart}
use Rattle.reg_commands.specs.declared.faults.Fault.{Fault}
use Rattle.reg_commands.specs.declared.faults.Fault.TheVariants.{Output}
use Rattle.reg_commands.specs.FaultLines.{fault_line}
use Rattle.reg_commands.specs.declared.Command.TheVariants.{Check}
use Rattle.reg_commands.specs.Answers.{Answers, AnswersInPart, Blames}
use Rattle.reg_cli.specs.declared.stops.Stop.{Stop}
use Rattle.reg_cli.specs.declared.stops.Stop.TheVariants.{Command}
use Rattle.reg_cli.specs.Lives.{Lives, BlamesStop}
use Rattle.reg_cli.specs.StopLines.{stop_line}
use Rattle.reg_cli.specs.declared.words.Asked.{Asked}
use Rattle.reg_cli.specs.declared.words.Asked.TheVariants.{Live, Text as OverText}

-- Status 0: what was asked for is the answer to the input. `Wrote` says how a text was written.
abbrev pub Obeys : Asked → Option (List ℕ) → (List ℕ → Type 0) → Type 0
Obeys (OverText command) input Wrote =
    IfSome input (λ xs. length xs ≤ LONGEST_INPUT) × IfSome input (Answers command true Wrote)
Obeys Live input Wrote = IfSome input (Lives Wrote)

-- Status 1: a check said no, and nothing was told; or the line of a fault was, or a first part of it. The fault holds
-- of the input, and nothing was written unless the writer failed; then a first part of an answer was.
abbrev pub Stops : Asked → Option (List ℕ) → Type 0 → Option (List ℕ) → Option (List ℕ) → Type 0 → Option (List ℕ)
    → Option (List ℕ) → Type 0
Stops (OverText command) input unwritten old new untold was is =
    ((command ≡ Check) × IfSome input (Answers command false (Appends old new)) × untold)
    ⊎ ((f : Fault) × IfSome input (Blames command f) × (f ≢ Output → unwritten)
    × (f ≡ Output → IfSome input (AnswersInPart command old new)) × AppendsPart was is (fault_line f))
Stops Live input unwritten old new untold was is =
    (stop : Stop) × IfSome input (BlamesStop stop) × (stop ≢ Command Output → unwritten)
    × (stop ≡ Command Output → IfSome input (Lives (AppendsPart old new))) × AppendsPart was is (stop_line stop)

-- what status 1 says of the error stream alone
abbrev pub Tells : Asked → Type 0 → Option (List ℕ) → Option (List ℕ) → Type 0
Tells (OverText command) untold was is =
    ((command ≡ Check) × untold) ⊎ ((f : Fault) × AppendsPart was is (fault_line f))
Tells Live untold was is = (stop : Stop) × AppendsPart was is (stop_line stop)

-- the line for words that there was no memory to read, with its line feed
abbrev pub memory_line : List ℕ
memory_line = codes "out of memory" ++ 10 ∷ []
