-- What a search for an order is given. It carries a proof: no promise speaks of it.
use Rattle.std.specs.Prelude.{ℕ, List}
use Rattle.reg_base.specs.Shape.{Extent}
use Rattle.reg_checkers.specs.declared.entries.Entry.{Entry}
use Rattle.reg_outcomes.specs.declared.orders.kinds.OrderKind.{OrderKind}

-- what is looked for: an order of this kind, of this history, where the same number of operations leads to no more
-- stages than the limit
pub record Sought : Type 0 where
  pub shape : Extent
  pub entries : List Entry
  pub kind : OrderKind
  pub limit : ℕ
