-- Which faults are of a text. It carries a proof: no promise speaks of it.
use Rattle.std.specs.Prelude.{Bool, true, false}
use Rattle.reg_commands.specs.declared.faults.Fault.{Fault}
use Rattle.reg_commands.specs.declared.faults.Fault.TheVariants.{Unread, TooLong, NotText, Output, Line, Event}
use Rattle.reg_commands.specs.declared.faults.Fault.TheVariants.{Workload, OutOfMemory}

-- a line, an event or a document is told
abbrev pub is_of_text : Fault → Bool
is_of_text Unread = false
is_of_text TooLong = false
is_of_text NotText = false
is_of_text Output = false
is_of_text (Line line why) = true
is_of_text (Event at fault) = true
is_of_text (Workload fault) = true
is_of_text OutOfMemory = false
