use Rattle.std.proofs.Common.{◌≡◌, drop}
use Rattle.reg_trace.specs.Figures.{end_of}
use Rattle.reg_trace.proofs.figures.end_among.Given as goal

-- the entries that are left have the answer
abbrev pub invariant-loop-entry : goal.invariant-loop-entry
invariant-loop-entry l = end_of l.id (drop l.entry-index l.entries) ≡ end_of l.id l.entries
