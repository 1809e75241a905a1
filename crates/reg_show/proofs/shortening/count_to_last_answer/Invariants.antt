use Rattle.std.proofs.Common.{◌≡◌, drop, max}
use Rattle.reg_show.specs.Shorts.{up_to_last_answer}
use Rattle.reg_show.proofs.shortening.count_to_last_answer.Given as goal

-- the larger of this and of what the entries that are left say
abbrev pub invariant-loop-entry : goal.invariant-loop-entry
invariant-loop-entry l = max l.count (up_to_last_answer (drop l.entry-index l.entries)) ≡ up_to_last_answer l.entries
