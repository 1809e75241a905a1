use Rattle.std.proofs.Common.{◌≡◌, ◌++◌, drop}
use Rattle.reg_trace.specs.Figures.{bars_in, bars_of}
use Rattle.reg_trace.proofs.figures.bars.Given as goal

-- with those of the entries that are left, all bars
abbrev pub invariant-loop-entry : goal.invariant-loop-entry
invariant-loop-entry g l = l.bars.items ++ bars_in l.entries (drop l.entry-index l.entries) ≡ bars_of l.entries
