-- Why a workload is refused, as text.
use Rattle.std.specs.Prelude.{ℕ, List, ◌++◌, codes}
use Rattle.std.specs.Fmt.{decimal}
use Rattle.reg_inputs.specs.declared.faults.WorkloadFault.{WorkloadFault}
use Rattle.reg_inputs.specs.declared.faults.WorkloadFault.TheVariants.{Toml, UnknownKey, Missing, Kind, Range, Script}
use Rattle.reg_inputs.specs.declared.faults.WorkloadFault.TheVariants.{OutOfMemory}
use Rattle.reg_inputs.specs.Keys.{key_name}

abbrev pub workload_text : WorkloadFault → List ℕ
workload_text Toml = codes "toml"
workload_text UnknownKey = codes "unknown key"
workload_text (Missing key) = codes "missing " ++ key_name key
workload_text (Kind key) = codes "kind " ++ key_name key
workload_text (Range key) = codes "range " ++ key_name key
workload_text (Script process place) = codes "script " ++ decimal process ++ codes " " ++ decimal place
workload_text OutOfMemory = codes "out of memory"
