-- A report of any version has no more processes and registers than a shape may have.
use Rattle.std.proofs.Common.{◌≤◌, arith}
use Rattle.reg_base.specs.declared.limits.TheConstants.{MOST_PROCESSES, MOST_REGISTERS}
use Rattle.reg_history.specs.declared.versions.Version.{Version}
use Rattle.reg_history.specs.declared.versions.Version.TheVariants.{One, Two, Three}
use Rattle.reg_history.specs.Versions.{most_processes, most_registers}

pub few_processes : (version : Version) → most_processes version ≤ MOST_PROCESSES
few_processes One = omega arith
few_processes Two = omega arith
few_processes Three = omega arith

pub few_registers : (version : Version) → most_registers version ≤ MOST_REGISTERS
few_registers One = omega arith
few_registers Two = omega arith
few_registers Three = omega arith
