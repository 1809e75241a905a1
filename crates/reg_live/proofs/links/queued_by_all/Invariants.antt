use Rattle.std.proofs.Common.{◌≡◌, drop}
use Rattle.reg_live.specs.Progress.{queued_by_all}
use Rattle.reg_live.proofs.links.queued_by_all.Given as goal

-- what is known so far, with the frames that are left
abbrev pub invariant-loop-put : goal.invariant-loop-put
invariant-loop-put l = queued_by_all l.queued (drop l.put-index l.frames) ≡ queued_by_all l.known l.frames
