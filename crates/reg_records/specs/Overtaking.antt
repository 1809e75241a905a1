-- When an operation that was called later stands before one that was answered earlier, in whatever order. To be
-- believed: promises speak of it.
use Rattle.std.specs.Prelude.{ℕ, ◌≡◌, ◌<◌, List}
use Rattle.reg_base.specs.declared.memory.Op.{Op}
use Rattle.reg_base.specs.declared.memory.OpId.{OpId}
use Rattle.reg_front.specs.declared.starts.Start.{Start}
use Rattle.reg_checkers.specs.declared.entries.Entry.{Entry}
use Rattle.reg_checkers.specs.History.{IsAt, IsFinished}
use Rattle.reg_checkers.specs.Orders.{IsSerial}
use Rattle.reg_process.specs.declared.events.Event.{Event}
use Rattle.reg_world.specs.RealTime.{IsEarlier}
use Rattle.reg_world.specs.World.{whole}

-- the run accepts each of these events, and this is its history
pub record Gives (start : Op → ℕ → Start) (n registers : ℕ) (events : List Event) (h : List Entry) : Type 0 where
  pub accepted : (whole start n registers events).accepted ≡ events
  pub history : (whole start n registers events).history ≡ h

-- Both are finished, a was answered before the call of b, and every serial order of the history has b before a.
pub record Overtakes (registers : ℕ) (h : List Entry) (b a : OpId) : Type 0 where
  pub earlier : IsEarlier h a b
  pub finished : IsFinished h b
  pub always : (ids : List OpId) → IsSerial registers h ids → (i j : ℕ) → IsAt ids i b → IsAt ids j a → i < j
