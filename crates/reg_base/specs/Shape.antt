-- Shapes, and why numbers give none.
use Rattle.std.specs.Prelude.{ℕ, ◌<◌, ◌≤◌, nat_eq, nat_lt, Result, Ok, Err, if◌then◌else◌}
use Rattle.reg_base.specs.declared.limits.TheConstants.{MOST_PROCESSES, MOST_REGISTERS}
use Rattle.reg_base.specs.declared.shapes.ShapeFault.{ShapeFault}
use Rattle.reg_base.specs.declared.shapes.ShapeFault.TheVariants.{NoProcess, TooManyProcesses, NoRegister}
use Rattle.reg_base.specs.declared.shapes.ShapeFault.TheVariants.{TooManyRegisters}

-- how many processes and registers there are
pub record Extent : Type 0 where
  pub processes : ℕ
  pub registers : ℕ

pub record InLimits (s : Extent) : Type 0 where
  pub some_process : 0 < s.processes
  pub processes : s.processes ≤ MOST_PROCESSES
  pub some_register : 0 < s.registers
  pub registers : s.registers ≤ MOST_REGISTERS

-- the shape, or the first fault
abbrev pub shape_of : ℕ → ℕ → Result Extent ShapeFault
shape_of p r =
    if nat_eq p 0 then Err NoProcess else
    if nat_lt MOST_PROCESSES p then Err TooManyProcesses else
    if nat_eq r 0 then Err NoRegister else
    if nat_lt MOST_REGISTERS r then Err TooManyRegisters else
    Ok (record { processes = p; registers = r })
