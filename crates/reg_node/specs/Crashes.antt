-- What outlives a crash. Promises cite it.
use Rattle.std.specs.Prelude.{ℕ, ◌≡◌, ◌++◌, List, drop}
use Rattle.reg_base.specs.declared.memory.Op.{Op}
use Rattle.reg_base.specs.Order.{In}
use Rattle.reg_frames.specs.declared.bodies.Body.{Body}
use Rattle.reg_frames.specs.declared.bodies.Frame.TheVariants.{Numbered}
use Rattle.reg_front.specs.declared.starts.Start.{Start}
use Rattle.reg_process.specs.Process.{State}
use Rattle.reg_process.specs.Puts.{put_to}
use Rattle.reg_records.specs.declared.entries.LogEntry.{LogEntry}
use Rattle.reg_node.specs.Logs.{Outgoing, outputs_of}

-- what was handed out is what goes out of the first steps of the log behind the entries that the node was opened with,
-- each once, in order; `left` goes out of the others
pub record AreOfSteps (start : Op → ℕ → Start) (first : State) (log : List LogEntry) (opened : ℕ)
    (given : List Outgoing) : Type 0 where
  pub left : List Outgoing
  pub all : given ++ left ≡ drop opened (outputs_of start first log)

-- among what was handed out is a frame for this process, whose body has this number
pub record IsGiven (given : List Outgoing) (to number : ℕ) : Type 0 where
  pub output : Outgoing
  pub body : Body
  pub handed : In output given
  pub put : In (put_to to (Numbered number body)) output.frames
