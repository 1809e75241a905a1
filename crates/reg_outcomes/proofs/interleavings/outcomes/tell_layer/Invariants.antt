use Rattle.std.proofs.Common.{◌≡◌, [], ◌++◌, map}
use Rattle.reg_outcomes.specs.Layers.{Adds, IsToldIn, reached, told_entries}
use Rattle.reg_outcomes.proofs.interleavings.outcomes.tell_layer.Given as goal

-- what the entries so far tell was added
abbrev pub invariant-loop-stage : goal.invariant-loop-stage
invariant-loop-stage g l = (l.yielded ++ l.stage-iterator ≡ l.fn.layer.entries) × Adds (IsToldIn (map reached l.yielded)) [] (told_entries l.outcomes)
