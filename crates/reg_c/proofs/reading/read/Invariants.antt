use Rattle.std.proofs.Common.{◌≡◌, take}
use Rattle.reg_c.specs.Rows.{Say}
use Rattle.reg_c.proofs.reading.read.Given as goal

-- what was read so far is what the rows so far say
abbrev pub invariant-loop-place : goal.invariant-loop-place
invariant-loop-place l = (l.history.shape ≡ record { processes = l.fn.size.processes; registers = l.fn.size.registers }) × Say (take l.place l.rows) l.expected l.history.entries
