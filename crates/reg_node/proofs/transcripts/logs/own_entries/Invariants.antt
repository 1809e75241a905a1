use Rattle.std.proofs.Common.{◌≡◌, map, take}
use Rattle.reg_node.specs.LogTexts.{recorded_by}
use Rattle.reg_node.proofs.transcripts.logs.own_entries.Given as goal

-- the steps so far are of this process
abbrev pub invariant-loop-place : goal.invariant-loop-place
invariant-loop-place g l = take l.place l.steps ≡ map (recorded_by l.process) l.entries.items
