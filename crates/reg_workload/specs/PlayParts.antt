-- Conditions of a play under way, and its choices. They carry a proof: no promise speaks of them.
use Rattle.std.specs.Prelude.{ℕ, ◌≡◌, ◌<◌, ◌≤◌, false, ◌+◌, List, length, take, Some, None, slice_get}
use Rattle.reg_base.specs.declared.limits.TheConstants.{MOST_PROCESSES, MOST_OPERATIONS}
use Rattle.reg_base.specs.declared.memory.Op.{Op}
use Rattle.reg_base.specs.Memory.{register_of}
use Rattle.reg_front.specs.declared.starts.Start.{Start}
use Rattle.reg_process.specs.Process.{pending_of}
use Rattle.reg_world.specs.Worlds.{run_in}
use Rattle.reg_workload.specs.declared.choices.Choice.{Choice}
use Rattle.reg_workload.specs.declared.choices.Choice.TheVariants.{Call as CallNext, Take as TakeNext, Tick as PutAgain}
use Rattle.reg_workload.specs.Plays.{calls_of, script_of, Playing, next_at, next_frame}

-- the process called as many operations of its script as is noted, from the first on, and no others
pub record Follows (s : Playing) (p : ℕ) : Type 0 where
  pub calls : calls_of p s.made.accepted ≡ take (next_at s p) (script_of s.scripts p)
  pub within : next_at s p ≤ length (script_of s.scripts p)

-- a script that a process can call: not too many operations, each on a register that there is
pub record IsPlayable (registers : ℕ) (script : List Op) : Type 0 where
  pub few : length script ≤ MOST_OPERATIONS
  pub known : (k : ℕ) (op : Op) → slice_get script k ≡ Some op → register_of op < registers

abbrev pub ArePlayable : ℕ → List (List Op) → Type 0
ArePlayable registers scripts = (p : ℕ) → p < length scripts → IsPlayable registers (script_of scripts p)

pub record IsPlaying (s : Playing) : Type 0 where
  pub few : s.made.processes ≤ MOST_PROCESSES
  pub scripts : length s.scripts ≡ s.made.processes
  pub next : length s.next ≡ s.made.processes
  pub senders : length s.cursors ≡ s.made.processes
  pub follows : (p : ℕ) → p < s.made.processes → Follows s p
  pub playable : ArePlayable s.made.registers s.scripts

-- the process is free, and has an operation left
pub record IsReadyToCall (start : Op → ℕ → Start) (s : Playing) (p : ℕ) : Type 0 where
  pub idle : ((run_in start s.made).nodes p).state.running ≡ None
  pub left : next_at s p < length (script_of s.scripts p)

-- the play went on, with at most as many events as the budget says
pub record GoesOn (budget : ℕ) (old new : Playing) : Type 0 where
  pub same : new.scripts ≡ old.scripts
  pub processes : new.made.processes ≡ old.made.processes
  pub registers : new.made.registers ≡ old.made.registers
  pub going : new.made.failed ≡ false
  pub few : length new.made.accepted ≤ budget

-- no process may call, and none has a frame to put again
pub record IsStill (start : Op → ℕ → Start) (s : Playing) (p : ℕ) : Type 0 where
  pub no_call : IsReadyToCall start s p → ⊥
  pub nothing_pending : pending_of ((run_in start s.made).nodes p).state.peers ≡ 0

abbrev pub AllStill : (Op → ℕ → Start) → Playing → Type 0
AllStill start s = (p : ℕ) → p < s.made.processes → IsStill start s p

-- a process may call, a frame of a wire is taken, or a process puts frames again
abbrev pub IsChoice : (Op → ℕ → Start) → Playing → Choice → Type 0
IsChoice start s (CallNext p) = (p < s.made.processes) × IsReadyToCall start s p
IsChoice start s (TakeNext from to number) =
    (from < s.made.processes) × (to < s.made.processes) × (next_frame start s from to ≡ Some number)
IsChoice start s (PutAgain p) = p < s.made.processes

abbrev pub AreChoices : (Op → ℕ → Start) → Playing → List Choice → Type 0
AreChoices start s choices = (k : ℕ) (c : Choice) → slice_get choices k ≡ Some c → IsChoice start s c

-- one turn of a play: one event more at most, and without loss one more
pub record Turns (loss : ℕ) (old new : Playing) : Type 0 where
  pub same : new.scripts ≡ old.scripts
  pub processes : new.made.processes ≡ old.made.processes
  pub registers : new.made.registers ≡ old.made.registers
  pub going : new.made.failed ≡ false
  pub most : length new.made.accepted ≤ length old.made.accepted + 1
  pub least : loss ≡ 0 → length new.made.accepted ≡ length old.made.accepted + 1
