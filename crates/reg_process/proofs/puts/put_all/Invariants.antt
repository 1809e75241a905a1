use Rattle.std.proofs.Common.{◌≡◌, ◌≤◌}
use Rattle.std.specs.Prelude.{vec_capacity}
use Rattle.reg_process.specs.Puts.{puts}
use Rattle.reg_process.specs.Sending.{sent_frames}
use Rattle.reg_process.proofs.puts.put_all.Given as goal

abbrev pub invariant-loop-r : goal.invariant-loop-r
invariant-loop-r g l =
    (l.frames.items ≡ puts (sent_frames l.sent) l.r) × (vec_capacity l.initial.frames ≤ vec_capacity l.frames)
