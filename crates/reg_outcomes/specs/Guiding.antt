-- What guides a search for an order. They carry a proof: no promise speaks of them.
use Rattle.std.specs.Prelude.{ℕ, List, IfSome, slice_index}
use Rattle.reg_base.specs.declared.memory.OpId.{OpId}
use Rattle.reg_checkers.specs.History.{IsFinished}
use Rattle.reg_checkers.specs.Orders.{IsSerial}
use Rattle.reg_checkers.specs.Progress.{op_of}
use Rattle.reg_outcomes.specs.declared.orders.guide.Guide.{Guide}
use Rattle.reg_outcomes.specs.declared.orders.torn.Outlook.{Outlook}
use Rattle.reg_outcomes.specs.declared.orders.torn.Outlook.TheVariants.{Torn, Open}
use Rattle.reg_outcomes.specs.Forced.{AreForced, Comes}
use Rattle.reg_outcomes.specs.Losing.{AreUses}
use Rattle.reg_outcomes.specs.Sought.{Sought}

-- a finished operation that is not placed, once these numbers of operations are, by process, comes before the operation
pub record IsBlocked (s : Sought) (next : List ℕ) (id : OpId) : Type 0 where
  pub process : ℕ
  pub finished : IsFinished s.entries (op_of process (slice_index next process))
  pub comes : Comes s (op_of process (slice_index next process)) id

-- what the guide holds is so in the history
pub record IsGuide {A : Type 0} (s : Sought) (guide : Guide A) : Type 0 where
  pub uses : AreUses s.entries guide.uses
  pub before : IfSome guide.before (λ b. AreForced s b)

-- what is known of the serial orders is so
abbrev pub IsOutlook : {A : Type 0} → Sought → Outlook A → Type 0
IsOutlook s Torn = (ids : List OpId) → ¬ IsSerial s.shape.registers s.entries ids
IsOutlook s (Open before) = IfSome before (λ b. AreForced s b)
