-- The line of each fault on the error stream.
use Rattle.std.specs.Prelude.{ℕ, List, [], ◌∷◌, ◌++◌, codes}
use Rattle.std.specs.Fmt.{decimal}
use Rattle.reg_history.specs.Whys.{why_text}
use Rattle.reg_world.specs.FaultTexts.{refusal_text}
use Rattle.reg_inputs.specs.FaultTexts.{workload_text}
use Rattle.reg_commands.specs.declared.faults.Fault.{Fault}
use Rattle.reg_commands.specs.declared.faults.Fault.TheVariants.{Unread, TooLong, NotText, Output, Line, Event}
use Rattle.reg_commands.specs.declared.faults.Fault.TheVariants.{Workload, OutOfMemory}

-- a fault as text
abbrev pub fault_text : Fault → List ℕ
fault_text Unread = codes "input: read"
fault_text TooLong = codes "input: too long"
fault_text NotText = codes "input: not text"
fault_text Output = codes "output: write"
fault_text (Line line why) = codes "line " ++ decimal line ++ codes ": " ++ why_text why
fault_text (Event at fault) = codes "event " ++ decimal at ++ codes ": " ++ refusal_text fault
fault_text (Workload fault) = workload_text fault
fault_text OutOfMemory = codes "out of memory"

-- the line of a fault, with its line feed
abbrev pub fault_line : Fault → List ℕ
fault_line fault = fault_text fault ++ 10 ∷ []
