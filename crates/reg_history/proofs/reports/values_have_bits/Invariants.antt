use Rattle.std.proofs.Common.{ℕ, ◌≡◌, ◌<◌, Some, slice_get}
use Rattle.reg_checkers.specs.declared.entries.Entry.{Entry}
use Rattle.reg_history.specs.Stops.{EntryHasValue}
use Rattle.reg_history.proofs.reports.values_have_bits.Given as goal

abbrev pub invariant-loop-entry : goal.invariant-loop-entry
invariant-loop-entry l = (k : ℕ) (e : Entry) → k < l.entry-index → slice_get l.entries k ≡ Some e → EntryHasValue e
