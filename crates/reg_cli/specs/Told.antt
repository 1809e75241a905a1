-- How a stop tells why the threads of a cluster gave no run. They carry a proof: no promise speaks of them.
use Rattle.std.specs.Prelude.{ℕ}
use Rattle.reg_live.specs.declared.faults.LiveFault.{LiveFault}
use Rattle.reg_live.specs.declared.faults.LiveFault.TheVariants as live
use Rattle.reg_records.specs.declared.faults.CloseFault.{CloseFault}
use Rattle.reg_records.specs.declared.faults.CloseFault.TheVariants as close
use Rattle.reg_live.specs.declared.scripts.RunStop.{RunStop}
use Rattle.reg_live.specs.declared.scripts.RunStop.TheVariants as run
use Rattle.reg_commands.specs.declared.faults.Fault.TheVariants as fault
use Rattle.reg_cli.specs.declared.stops.Stop.{Stop}
use Rattle.reg_cli.specs.declared.stops.Stop.TheVariants.{Command, Failed, NoRegister, Behind, Full, Unfaithful}
use Rattle.reg_cli.specs.declared.stops.Stop.TheVariants.{Mismatch}

-- the refusal of a process's pass
abbrev pub stop_of_pass : ℕ → LiveFault → Stop
stop_of_pass process live.Failed = Failed process
stop_of_pass process live.NoRegister = NoRegister process
stop_of_pass process (live.Behind length) = Behind process length
stop_of_pass process live.Full = Full process
stop_of_pass process live.OutOfMemory = Command fault.OutOfMemory

-- the refusal of what the stations wrote down
abbrev pub stop_of_close : CloseFault → Stop
stop_of_close (close.Unfaithful place) = Unfaithful place
stop_of_close (close.Mismatch process) = Mismatch process
stop_of_close close.OutOfMemory = Command fault.OutOfMemory

-- why threads gave no run
abbrev pub stop_of_run : RunStop → Stop
stop_of_run (run.Pass process why) = stop_of_pass process why
stop_of_run (run.Close why) = stop_of_close why
stop_of_run run.OutOfMemory = Command fault.OutOfMemory
