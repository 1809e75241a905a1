use Rattle.std.proofs.Common.{◌≤◌, length}
use Rattle.reg_base.specs.declared.limits.TheConstants.{LONGEST_INPUT}
use Rattle.std.specs.Io.KnownBytes.{Consumes}
use Rattle.reg_commands.proofs.input.read_all.Given as goal

-- what was read so far is no more than the limit, and is what the reader has given
abbrev pub invariant-loop : goal.invariant-loop
invariant-loop g l = (length l.bytes.items ≤ LONGEST_INPUT) × Consumes (g.R.Read.remaining l.initial.reader) (g.R.Read.remaining l.reader) l.bytes.items
