-- One event of a process, with its refusals. Promises cite it.
use Rattle.std.specs.Prelude.{ℕ, ◌≡◌, Bool, true, false, cond, if◌then◌else◌, List, length, Option, Some, None}
use Rattle.reg_base.specs.declared.stamps.Stamp.{Stamp}
use Rattle.reg_base.specs.declared.memory.Op.{Op}
use Rattle.reg_base.specs.declared.stamps.Delivered.{Delivered}
use Rattle.reg_process.specs.declared.steps.Reply.{Reply}
use Rattle.reg_front.specs.declared.starts.Start.{Start}
use Rattle.reg_process.specs.declared.steps.Step.{Step}
use Rattle.reg_process.specs.declared.steps.Step.TheVariants.{Call, Take, Tick}
use Rattle.reg_process.specs.Process.{State, Outcome, step, unsettled}
use Rattle.reg_frames.specs.declared.puts.Put.{Put}
use Rattle.reg_process.specs.declared.faults.ProcessFault.{ProcessFault}
use Rattle.reg_process.specs.declared.faults.ProcessFault.TheVariants.{Failed, ClockFull, OutOfMemory}
use Rattle.reg_process.specs.Puts.{puts}
use Rattle.reg_process.specs.Faults.{step_fault, is_cast, is_numbered}

-- whether a process has stopped for good, its state, and how many frames fit into the list that it keeps for a later
-- event
pub record Kept : Type 0 where
  pub failed : Bool
  pub state : State
  pub room : ℕ

-- the process goes on, in this state
abbrev pub IsGoing : Kept → State → Type 0
IsGoing k s = (k.failed ≡ false) × (k.state ≡ s)

-- whether an accepted event puts its frames into the kept list, which goes out with them
abbrev pub uses_list : (Op → ℕ → Start) → State → Step → Bool
uses_list start s (Call op) = is_cast (start op (unsettled s))
uses_list start s (Take from frame) = is_numbered frame
uses_list start s Tick = false

abbrev pub process_fault : (Op → ℕ → Start) → Kept → Step → Option ProcessFault
process_fault start k e = cond k.failed (Some Failed) (step_fault start k.state e)

-- what goes out is what the definition says
pub record IsOutcome (n : ℕ) (o : Outcome) (frames : List Put) (cast : Option Stamp) (delivered : List Delivered)
    (reply : Option Reply) : Type 0 where
  pub put : frames ≡ puts o.frames n
  pub made : cast ≡ o.cast
  pub casts : delivered ≡ o.delivered
  pub answer : reply ≡ o.reply

-- an accepted event
pub record Steps (start : Op → ℕ → Start) (old : Kept) (e : Step) (frames : List Put) (cast : Option Stamp)
    (delivered : List Delivered) (reply : Option Reply) (new : Kept) : Type 0 where
  pub no_fault : process_fault start old e ≡ None
  pub state : IsGoing new (step start old.state e).0
  pub room : new.room ≡ (if uses_list start old.state e then 0 else old.room)
  pub outcome : IsOutcome (length old.state.peers) (step start old.state e).1 frames cast delivered reply

-- an accepted event of which no frame is listed: the kept list stays
pub record Briefs (start : Op → ℕ → Start) (old : Kept) (e : Step) (frames : List Put) (cast : Option Stamp)
    (delivered : List Delivered) (reply : Option Reply) (new : Kept) : Type 0 where
  pub no_fault : process_fault start old e ≡ None
  pub state : IsGoing new (step start old.state e).0
  pub room : new.room ≡ old.room
  pub outcome : IsOutcome (length old.state.peers) (step start old.state e).1 frames cast delivered reply

-- a refused event: the process has stopped for good, or is unchanged
abbrev pub Refused : (Op → ℕ → Start) → Kept → Step → ProcessFault → Kept → Type 0
Refused start old e OutOfMemory new = (process_fault start old e ≡ None) × (new.failed ≡ true)
Refused start old e ClockFull new = (process_fault start old e ≡ Some ClockFull) × (new.failed ≡ true)
Refused start old e fault new = (process_fault start old e ≡ Some fault) × (new ≡ old)
