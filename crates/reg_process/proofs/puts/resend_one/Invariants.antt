use Rattle.std.proofs.Common.{◌≡◌, ◌++◌, map, take}
use Rattle.reg_links.specs.Sending.{link_to}
use Rattle.reg_process.specs.Process.{numbered_from}
use Rattle.reg_process.specs.Puts.{put_to}
use Rattle.reg_process.proofs.puts.resend_one.Given as goal

abbrev pub invariant-loop-i : goal.invariant-loop-i
invariant-loop-i g l = l.frames.items ≡ l.initial.frames.items ++ map (put_to l.to) (numbered_from (link_to l.outboxes l.to).first (take l.i (link_to l.outboxes l.to).pending))
