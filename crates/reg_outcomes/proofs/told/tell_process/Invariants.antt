use Rattle.std.proofs.Common.{◌≡◌, ◌++◌, None, take}
use Rattle.reg_outcomes.specs.Told.{told_of}
use Rattle.reg_outcomes.proofs.TellingHistory.{last_in}
use Rattle.reg_outcomes.proofs.told.tell_process.Given as goal

-- what the entries so far told, and the operation that the process called last in them
abbrev pub invariant-loop-entry : goal.invariant-loop-entry
invariant-loop-entry g l = (l.outcome.items ≡ l.initial.outcome.items ++ told_of l.process (take l.entry-index l.entries)) × (l.last ≡ last_in l.process None (take l.entry-index l.entries))
