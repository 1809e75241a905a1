-- What is known of a run, whatever made it.
use Rattle.std.specs.Prelude.{ℕ, ◌≢◌, List, map, take}
use Rattle.reg_base.specs.declared.memory.OpId.{OpId}
use Rattle.reg_base.specs.declared.memory.Op.{Op}
use Rattle.reg_checkers.specs.declared.entries.Entry.{Entry}
use Rattle.reg_base.specs.declared.stamps.Stamp.{Stamp}
use Rattle.reg_world.specs.declared.order.First.{First}
use Rattle.reg_world.specs.declared.order.CopyRead.{CopyRead}
use Rattle.reg_base.specs.Memory.{Memory, memory}
use Rattle.reg_checkers.specs.History.{IsAt}

-- a broadcast of an operation
pub record Cast : Type 0 where
  pub stamp : Stamp
  pub id : OpId
  pub op : Op

-- what is told of a run
pub record Run : Type 0 where
  pub registers : ℕ
  pub history : List Entry
  pub casts : List Cast  -- every cast made, delivered or not
  pub order : List First  -- those delivered somewhere, in order of delivery
  pub reads : List CopyRead  -- the finished reads answered from a copy

-- the memory after the first k casts of the order
abbrev pub memory_of : Run → ℕ → Memory
memory_of r k = memory r.registers (map (λ c. c.op) (take k r.order))

-- no process has delivered the cast of this id
abbrev pub IsWaiting : Run → OpId → Type 0
IsWaiting r id = (k : ℕ) (c : First) → IsAt r.order k c → c.id ≢ id
