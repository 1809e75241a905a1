-- What a refusal of the command line is told as, its line, and the exit status then.
use Rattle.std.specs.Prelude.{ℕ, List, [], ◌∷◌, ◌++◌, codes}
use Rattle.clap.specs.declared.error.ErrorKind.{ErrorKind}
use Rattle.clap.specs.declared.error.ErrorKind.TheVariants.{OutOfMemory as NoMemory}
use Rattle.reg_cli.specs.declared.faults.WordsFault.{WordsFault}
use Rattle.reg_cli.specs.declared.faults.WordsFault.TheVariants.{CommandLine, OutOfMemory}

-- out of memory is itself, and every other kind is the command line's
abbrev pub words_fault : ErrorKind → WordsFault
words_fault NoMemory = OutOfMemory
words_fault _ = CommandLine

abbrev pub status_of : WordsFault → ℕ
status_of CommandLine = 2
status_of OutOfMemory = 1

-- the line of a fault, with its line feed, where this is the line for words that are refused
abbrev pub words_line : List ℕ → WordsFault → List ℕ
words_line refused CommandLine = refused
words_line refused OutOfMemory = codes "out of memory" ++ 10 ∷ []
