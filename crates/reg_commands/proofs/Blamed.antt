-- What all commands tell of a text by a fault: that it can't be read, is too long or is no text, and that there is no
-- memory. They tell no more in common.
use Rattle.std.proofs.Common.{ℕ, ◌≢◌, ◌<◌, List, false, length, refl}
use Rattle.std.specs.Str.{IsUtf8}
use Rattle.reg_base.specs.declared.limits.TheConstants.{LONGEST_INPUT}
use Rattle.reg_commands.specs.Answers.{Blames}
use Rattle.reg_commands.specs.declared.command.Command.{Command}
use Rattle.reg_commands.specs.declared.command.Command.TheVariants.{Check, Play}
use Rattle.reg_commands.specs.declared.faults.Fault.{Fault}
use Rattle.reg_commands.specs.declared.faults.Fault.TheVariants.{Unread, TooLong, NotText, Output, Line, Event}
use Rattle.reg_commands.specs.declared.faults.Fault.TheVariants.{Workload, OutOfMemory}

-- what is said by these faults is said by each one that all commands tell
pub told_by_all : (P : Fault → List ℕ → Type 0) (text : List ℕ) → P Unread text
    → (LONGEST_INPUT < length text → P TooLong text) → (¬ IsUtf8 text → P NotText text) → P OutOfMemory text
    → (fault : Fault) → fault ≢ Output → ((command : Command) → Blames command fault text) → P fault text
told_by_all P text unread long no_text memory Unread other blamed = unread
told_by_all P text unread long no_text memory TooLong other blamed = long (blamed Check)
told_by_all P text unread long no_text memory NotText other blamed = no_text (blamed Check)
told_by_all P text unread long no_text memory Output other blamed = absurd (other refl)
told_by_all P text unread long no_text memory (Line line why) other blamed = absurd (blamed (Play false))
told_by_all P text unread long no_text memory (Event at fault) other blamed = absurd (blamed Check)
told_by_all P text unread long no_text memory (Workload fault) other blamed = absurd (blamed Check)
told_by_all P text unread long no_text memory OutOfMemory other blamed = memory
