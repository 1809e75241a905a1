use Rattle.std.proofs.Common.{◌≡◌, ◌++◌, map, take}
use Rattle.reg_node.specs.LogTexts.{recorded_by}
use Rattle.reg_verify.proofs.log_merging.add_steps.Given as goal

-- the steps of the entries so far
abbrev pub invariant-loop-entry : goal.invariant-loop-entry
invariant-loop-entry g l =
    l.steps.items ≡ l.fn.steps.items ++ map (recorded_by l.process) (take l.entry-index l.log.entries)
