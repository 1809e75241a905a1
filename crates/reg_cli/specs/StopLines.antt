-- The line of each stop on the error stream.
use Rattle.std.specs.Prelude.{ℕ, List, [], ◌∷◌, ◌++◌, codes}
use Rattle.std.specs.Fmt.{decimal}
use Rattle.reg_commands.specs.FaultLines.{fault_text}
use Rattle.reg_cli.specs.declared.stops.Stop.{Stop}
use Rattle.reg_cli.specs.declared.stops.Stop.TheVariants.{Command, Failed, NoRegister, Behind, Full, Unfaithful}
use Rattle.reg_cli.specs.declared.stops.Stop.TheVariants.{Mismatch}

-- a stop as text
abbrev pub stop_text : Stop → List ℕ
stop_text (Command fault) = fault_text fault
stop_text (Failed process) = codes "process " ++ decimal process ++ codes ": failed"
stop_text (NoRegister process) = codes "process " ++ decimal process ++ codes ": no register"
stop_text (Behind process length) = codes "process " ++ decimal process ++ codes ": behind " ++ decimal length
stop_text (Full process) = codes "process " ++ decimal process ++ codes ": full"
stop_text (Unfaithful place) = codes "close: unfaithful " ++ decimal place
stop_text (Mismatch process) = codes "close: mismatch " ++ decimal process

-- the line of a stop, with its line feed
abbrev pub stop_line : Stop → List ℕ
stop_line stop = stop_text stop ++ 10 ∷ []
