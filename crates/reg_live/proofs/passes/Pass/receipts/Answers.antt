use Rattle.std.proofs.Common.{ap, ◌∙◌}
use Rattle.reg_live.specs.Passes.{Held}
use Rattle.reg_live.proofs.passes.Pass.receipts.Goals as goal

pub returns : goal.returns
returns g c = c.as_slice.ensures.value ∙ ap (λ (h : Held). h.receipts) c.self.view_is
