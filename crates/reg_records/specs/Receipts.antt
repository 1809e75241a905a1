-- What the callers were told, against a history.
use Rattle.std.specs.Prelude.{ℕ, ◌≡◌, ◌<◌, List, length}
use Rattle.reg_base.specs.declared.memory.Op.{Op}
use Rattle.reg_base.specs.declared.memory.OpId.{OpId}
use Rattle.reg_base.specs.Shape.{Extent}
use Rattle.reg_front.specs.declared.starts.Start.{Start}
use Rattle.reg_checkers.specs.declared.entries.Entry.{Entry}
use Rattle.reg_checkers.specs.History.{IsAt, IsCalled, IsAnswered, IsFinished}
use Rattle.reg_world.specs.World.{op_id}
use Rattle.reg_world.specs.Worlds.{Made}
use Rattle.reg_records.specs.declared.entries.LogEntry.{LogEntry}
use Rattle.reg_records.specs.declared.entries.Receipt.{Receipt}
use Rattle.reg_records.specs.declared.faults.CloseFault.{CloseFault}
use Rattle.reg_records.specs.declared.faults.CloseFault.TheVariants.{Unfaithful, Mismatch, OutOfMemory}
use Rattle.reg_records.specs.Records.{IsFaithful, FailsAt}

-- the receipt of the operation of this id, with its call and its answer in the history
pub record IsReceipt (h : List Entry) (id : OpId) (r : Receipt) : Type 0 where
  pub id_is : r.id ≡ id
  pub call : IsCalled h id r.called r.op
  pub answer_of : IsAnswered h id r.answered r.answer

-- The receipts are the finished operations of a process, in order: the k-th is that of its operation k, and it has no
-- other finished one.
pub record AreFinished (h : List Entry) (p : ℕ) (receipts : List Receipt) : Type 0 where
  pub each : (k : ℕ) (r : Receipt) → IsAt receipts k r → IsReceipt h (op_id p k) r
  pub all : (k : ℕ) → IsFinished h (op_id p k) → k < length receipts

-- each list is the finished operations of its process
abbrev pub AreTold : List Entry → List (List Receipt) → Type 0
AreTold h lists = (p : ℕ) (receipts : List Receipt) → IsAt lists p receipts → AreFinished h p receipts

-- the first process whose list is not its finished operations
pub record IsFirstUntold (h : List Entry) (lists : List (List Receipt)) (p : ℕ) : Type 0 where
  pub receipts : List Receipt
  pub at : IsAt lists p receipts
  pub other : AreFinished h p receipts → ⊥
  pub before : (q : ℕ) (those : List Receipt) → q < p → IsAt lists q those → AreFinished h q those

-- the order and the logs are a run that ends in this world, and each list is the finished operations of its process in
-- it
pub record IsRecord (start : Op → ℕ → Start) (shape : Extent) (order : List ℕ) (logs : List (List LogEntry))
    (lists : List (List Receipt)) (w : Made) : Type 0 where
  pub faithful : IsFaithful start shape order logs w
  pub told : AreTold w.history lists

-- the order and the logs are a run, in which p is the first process whose list is not its finished operations
pub record IsMismatch (start : Op → ℕ → Start) (shape : Extent) (order : List ℕ) (logs : List (List LogEntry))
    (lists : List (List Receipt)) (p : ℕ) : Type 0 where
  pub world : Made
  pub faithful : IsFaithful start shape order logs world
  pub untold : IsFirstUntold world.history lists p

-- why a record is refused, `OutOfMemory` aside
abbrev pub IsRecordFault : (Op → ℕ → Start) → Extent → List ℕ → List (List LogEntry) → List (List Receipt) → CloseFault
    → Type 0
IsRecordFault start shape order logs lists (Unfaithful place) = FailsAt start shape order logs place
IsRecordFault start shape order logs lists (Mismatch p) = IsMismatch start shape order logs lists p
IsRecordFault start shape order logs lists OutOfMemory = Unit {0}

-- why a record is refused, `OutOfMemory` aside, where no list is compared
abbrev pub IsPlayFault : (Op → ℕ → Start) → Extent → List ℕ → List (List LogEntry) → CloseFault → Type 0
IsPlayFault start shape order logs (Unfaithful place) = FailsAt start shape order logs place
IsPlayFault start shape order logs (Mismatch p) = ⊥
IsPlayFault start shape order logs OutOfMemory = Unit {0}
