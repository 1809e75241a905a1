-- Receipts as they are checked, one entry of a history after another. They carry a proof: no promise speaks of them.
use Rattle.std.specs.Prelude.{ℕ, ◌≡◌, ◌≢◌, ◌<◌, ◌≤◌, ◌+◌, List, length, Option, Some, None}
use Rattle.reg_base.specs.declared.memory.OpId.{OpId}
use Rattle.reg_base.specs.declared.memory.Answer.{Answer}
use Rattle.reg_checkers.specs.declared.entries.Entry.{Entry}
use Rattle.reg_checkers.specs.declared.entries.Entry.TheVariants.{Called, Answered}
use Rattle.reg_checkers.specs.declared.place.Progress.{Progress}
use Rattle.reg_checkers.specs.Progress.{IsProgressOf}
use Rattle.reg_checkers.specs.History.{IsAt}
use Rattle.reg_world.specs.World.{op_id}
use Rattle.reg_records.specs.declared.entries.Receipt.{Receipt}
use Rattle.reg_records.specs.declared.telling.Pending.{Pending}
use Rattle.reg_records.specs.declared.telling.Matched.{Matched}
use Rattle.reg_records.specs.Receipts.{IsReceipt}

-- the receipt of an answer to this call
abbrev pub receipt_by : OpId → Pending → ℕ → Answer → Receipt
receipt_by id call at answer = record { id = id; op = call.op; answer = answer; called = call.at; answered = at }

-- the next receipt is that of this answer
abbrev pub IsNextReceipt : Matched → List Receipt → ℕ → OpId → Answer → Type 0
IsNextReceipt told receipts at id answer =
    (call : Pending) × (told.running ≡ Some call) × IsAt receipts told.done (receipt_by id call at answer)

-- how far the process is after one more entry
abbrev pub IsAfter : Matched → ℕ → List Receipt → Entry → Matched → Type 0
IsAfter told p receipts (Called at id op) next =
    (id.process ≡ p → next ≡ record { done = told.done; running = Some (record { at = at; op = op }) })
    × (id.process ≢ p → next ≡ told)
IsAfter told p receipts (Answered at id answer) next =
    (id.process ≡ p
    → IsNextReceipt told receipts at id answer × (next ≡ record { done = told.done + 1; running = None }))
    × (id.process ≢ p → next ≡ told)

-- the entry is an answer of the process, and the next receipt isn't that answer's
abbrev pub IsOther : Matched → ℕ → List Receipt → Entry → Type 0
IsOther told p receipts (Called at id op) = ⊥
IsOther told p receipts (Answered at id answer) = (id.process ≡ p) × (IsNextReceipt told receipts at id answer → ⊥)

-- how far the process is, as a history knows it
abbrev pub progress_of : ℕ → Option Pending → Progress
progress_of done None = record { next = done; running = None }
progress_of done (Some call) = record { next = done + 1; running = Some (record { at = call.at; op = call.op }) }

-- how far the process is in these entries: as many operations are finished as `told` says, each as its receipt says
pub record IsToldIn (es : List Entry) (p : ℕ) (receipts : List Receipt) (told : Matched) : Type 0 where
  pub progress : IsProgressOf es p (progress_of told.done told.running)
  pub within : told.done ≤ length receipts
  pub each : (k : ℕ) (r : Receipt) → k < told.done → IsAt receipts k r → IsReceipt es (op_id p k) r
