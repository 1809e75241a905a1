-- What the faults of the reader of schedules say of a text.
use Rattle.std.proofs.Common.{ℕ, ◌≡◌, ◌≢◌, List, refl}
use Rattle.reg_commands.specs.Answers.{Blames}
use Rattle.reg_commands.specs.declared.command.Command.TheVariants.{Replay}
use Rattle.reg_commands.specs.declared.faults.Fault.{Fault}
use Rattle.reg_commands.specs.declared.faults.Fault.TheVariants.{Unread, TooLong, NotText, Output, Line, Event}
use Rattle.reg_commands.specs.declared.faults.Fault.TheVariants.{Workload, OutOfMemory}
use Rattle.reg_web.specs.Under.{BlamesUnread, fault_of_reading}

-- what the replay of a schedule says by a fault that is none of its output
pub read_blames : (fault : Fault) (text : List ℕ) → fault ≢ Output → Blames Replay fault text
    → BlamesUnread (fault_of_reading fault) text
read_blames Unread text other blamed = blamed
read_blames TooLong text other blamed = blamed
read_blames NotText text other blamed = blamed
read_blames Output text other blamed = absurd (other refl)
read_blames (Line line why) text other blamed = blamed
read_blames (Event at why) text other blamed = tt
read_blames (Workload why) text other blamed = blamed
read_blames OutOfMemory text other blamed = blamed

pub read_writes_nothing : (fault : Fault) → fault ≢ Output → fault_of_reading fault ≢ Output
read_writes_nothing Unread other = λ e. absurd cc
read_writes_nothing TooLong other = λ e. absurd cc
read_writes_nothing NotText other = λ e. absurd cc
read_writes_nothing Output other = other
read_writes_nothing (Line line why) other = λ e. absurd cc
read_writes_nothing (Event at why) other = λ e. absurd cc
read_writes_nothing (Workload why) other = λ e. absurd cc
read_writes_nothing OutOfMemory other = λ e. absurd cc
