use Rattle.std.proofs.Common.{◌≡◌, ℕ, replicate}
use Rattle.std.proofs.lemmas.Result.{IfOk-weaker}
use Rattle.reg_outcomes.specs.Forced.{IsNoneRow}
use Rattle.reg_outcomes.proofs.Known.{noughts}
use Rattle.reg_outcomes.proofs.orders.before.row_of.Goals as goal

pub returns : goal.returns
returns g c = IfOk-weaker c.vec.result (λ v. ((y : ℕ) → y ≡ 0 → y ≡ 0) → v.items ≡ replicate c.saturating_mul.result 0) IsNoneRow (λ v is. noughts c.saturating_mul.result v.items (is (λ y h. h))) c.vec.ensures.items_if_clones_equal
