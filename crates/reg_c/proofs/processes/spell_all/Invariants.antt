use Rattle.std.proofs.Common.{◌≡◌, take}
use Rattle.reg_c.specs.Processes.{AllFit, all_bytes}
use Rattle.reg_c.proofs.processes.spell_all.Given as goal

-- the bytes so far are those of the frames so far
abbrev pub invariant-loop-put : goal.invariant-loop-put
invariant-loop-put l = AllFit (take l.put-index l.puts) × (l.bytes.items ≡ all_bytes (take l.put-index l.puts))
