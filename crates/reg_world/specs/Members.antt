-- Processes with their wires, and an event of one. They carry a proof: no promise speaks of them.
use Rattle.std.specs.Prelude.{ℕ, ◌≡◌, ◌<◌, zero, suc, slice_index_or, Bool, false, List, [], ◌∷◌, ◌++◌, length, Option}
use Rattle.std.specs.Prelude.{None}
use Rattle.reg_base.specs.declared.stamps.Stamp.{Stamp}
use Rattle.reg_base.specs.declared.stamps.Delivered.{Delivered}
use Rattle.reg_base.specs.declared.memory.Op.{Op}
use Rattle.reg_frames.specs.declared.bodies.Frame.{Frame}
use Rattle.reg_front.specs.declared.starts.Start.{Start}
use Rattle.reg_process.specs.declared.steps.Reply.{Reply}
use Rattle.reg_process.specs.declared.steps.Step.{Step}
use Rattle.reg_process.specs.Process.{State, step, resent}
use Rattle.reg_process.specs.Puts.{puts}
use Rattle.reg_process.specs.Faults.{step_fault}
use Rattle.reg_world.specs.Sent.{sent, AreOn}

-- whether a process has stopped, its state, and all frames that it ever put for each process
pub record Standing : Type 0 where
  pub failed : Bool
  pub state : State
  pub wires : List (List Frame)

-- a function as a list of its first values
abbrev pub listed : {X : Type 0} → (ℕ → X) → ℕ → List X
listed f zero = []
listed f (suc n) = listed f n ++ f n ∷ []

-- no fault applies to the step, and what a tick puts again was put before
pub record MayAct (start : Op → ℕ → Start) (s : Standing) (e : Step) : Type 0 where
  pub stands : s.failed ≡ false
  pub none : step_fault start s.state e ≡ None
  pub wires : length s.wires ≡ length s.state.peers
  pub out : (to : ℕ) → to < length s.state.peers → AreOn (slice_index_or s.wires to []) (resent s.state to)

-- the step was made
pub record Acts (start : Op → ℕ → Start) (old : Standing) (e : Step) (made : Option Stamp) (casts : List Delivered)
    (answer : Option Reply) (new : Standing) : Type 0 where
  pub runs : new.failed ≡ false
  pub state : new.state ≡ (step start old.state e).0
  pub wires : new.wires ≡ sent (puts (step start old.state e).1.frames (length old.state.peers)) old.wires
  pub cast : made ≡ (step start old.state e).1.cast
  pub delivered : casts ≡ (step start old.state e).1.delivered
  pub reply : answer ≡ (step start old.state e).1.reply
