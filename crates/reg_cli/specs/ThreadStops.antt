-- The stops that are told of threads. They carry a proof: no promise speaks of them.
use Rattle.std.specs.Prelude.{⊤}
use Rattle.reg_commands.specs.declared.faults.Fault.TheVariants.{OutOfMemory}
use Rattle.reg_cli.specs.declared.stops.Stop.{Stop}
use Rattle.reg_cli.specs.declared.stops.Stop.TheVariants.{Command}

-- what is told of threads: a pass that was refused, a record that was, or that they were out of memory
abbrev pub IsOfThreads : Stop → Type 0
IsOfThreads (Command OutOfMemory) = ⊤
IsOfThreads (Command fault) = ⊥
IsOfThreads stop = ⊤
