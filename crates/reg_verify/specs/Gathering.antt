-- Steps of the gathering of logs. They carry a proof: no promise speaks of them.
use Rattle.std.specs.Prelude.{ℕ, ◌≢◌, ◌<◌, List}
use Rattle.reg_checkers.specs.History.{IsAt}
use Rattle.reg_node.specs.declared.transcripts.logs.LogFault.{LogFault}
use Rattle.reg_node.specs.declared.transcripts.logs.LogFault.TheVariants as logs
use Rattle.reg_node.specs.LogTexts.{Journal}
use Rattle.reg_verify.specs.declared.gathering.LogsFault.{LogsFault}
use Rattle.reg_verify.specs.declared.gathering.LogsFault.TheVariants.{Unread, OutOfMemory}

-- none of the first logs is of this process
abbrev pub NoneBefore : List Journal → ℕ → ℕ → Type 0
NoneBefore journals count process = (k : ℕ) (j : Journal) → k < count → IsAt journals k j → j.id.process ≢ process

-- what is told of a text that is read as no log: that there was no memory is told of all
abbrev pub told_unread : ℕ → LogFault → LogsFault
told_unread log (logs.Line number why) = Unread log (logs.Line number why)
told_unread log logs.NoProcess = Unread log logs.NoProcess
told_unread log (logs.Foreign place) = Unread log (logs.Foreign place)
told_unread log (logs.Damaged place) = Unread log (logs.Damaged place)
told_unread log logs.OutOfMemory = OutOfMemory
