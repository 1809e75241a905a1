-- Which of the three texts a text is.
use Rattle.std.specs.Prelude.{ℕ, false, List, [], ◌∷◌, drop, codes, nat_eq, if◌then◌else◌}
use Rattle.std.specs.List.{starts_with}
use Rattle.reg_text.specs.Lines.{kept, lines_of}
use Rattle.reg_commands.specs.declared.command.Command.{Command}
use Rattle.reg_commands.specs.declared.command.Command.TheVariants.{Replay, Check, Play}
use Rattle.reg_commands.specs.declared.kinds.Kind.{Kind}
use Rattle.reg_commands.specs.declared.kinds.Kind.TheVariants.{Report, Schedule, Workload}

-- the text after a byte order mark, where one stands at its start
abbrev pub behind_mark : List ℕ → List ℕ
behind_mark text = if starts_with nat_eq text (239 ∷ 187 ∷ 191 ∷ []) then drop 3 text else text

-- what a text is meant as that has this line first
abbrev pub kind_of_line : List ℕ → Kind
kind_of_line line =
    if starts_with nat_eq line (codes "awreg ") then Report else
    (if starts_with nat_eq line (codes "processes ") then Schedule else Workload)

-- the same of lines
abbrev pub kind_of_lines : List (List ℕ) → Kind
kind_of_lines [] = Workload
kind_of_lines (line ∷ rest) = kind_of_line line

-- what a text is meant as: its lines that are empty or begin with # are passed over, and so is a byte order mark
abbrev pub kind_of : List ℕ → Kind
kind_of text = kind_of_lines (kept (lines_of (behind_mark text)))

-- the command that reads such texts
abbrev pub command_of : Kind → Command
command_of Report = Check
command_of Schedule = Replay
command_of Workload = Play false
