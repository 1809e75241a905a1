-- Which words ask for what.
use Rattle.std.specs.Prelude.{ℕ, ◌≡◌, ⊤, Bool, false, List, [], ◌∷◌, ◌++◌, codes, Result, Ok, Err}
use Rattle.clap.specs.Words.{Text}
use Rattle.reg_commands.specs.declared.Command.TheVariants.{Check, Play, Replay}
use Rattle.reg_cli.specs.Subcommands.{named_line}
use Rattle.reg_cli.specs.declared.words.Asked.{Asked}
use Rattle.reg_cli.specs.declared.words.Asked.TheVariants.{Live, Text as OverText}
use Rattle.reg_cli.specs.declared.faults.WordsFault.{WordsFault}
use Rattle.reg_cli.specs.declared.faults.WordsFault.TheVariants.{CommandLine, OutOfMemory}

-- the name of what is asked for
abbrev pub name_of : Asked → Text
name_of Live = codes "live"
name_of (OverText Replay) = codes "replay"
name_of (OverText Check) = codes "check"
name_of (OverText (Play fair)) = codes "play"

-- whether what is asked for is a fair play
abbrev pub is_fair : Asked → Bool
is_fair (OverText (Play fair)) = fair
is_fair _ = false

-- the words after the program's name that ask for this
abbrev pub line_of : Asked → List Text
line_of asked = named_line (name_of asked) (is_fair asked)

-- the words ask for something
abbrev pub IsCommandLine : List Text → Type 0
IsCommandLine line = (asked : Asked) × (line ≡ line_of asked)

-- an answer of the words: just what they ask for, or CommandLine where they ask for nothing
abbrev pub IsAnswer : List Text → Result Asked WordsFault → Type 0
IsAnswer line (Ok asked) = line ≡ line_of asked
IsAnswer line (Err CommandLine) = ¬ IsCommandLine line
IsAnswer line (Err OutOfMemory) = ⊤

-- the line for words that ask for nothing, with its line feed
abbrev pub refused_line : List ℕ
refused_line = codes "command line" ++ 10 ∷ []
