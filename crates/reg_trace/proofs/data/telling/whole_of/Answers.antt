use Rattle.std.proofs.Common.{◌∙◌}
use Rattle.reg_trace.proofs.data.telling.whole_of.Goals as goal

pub returns-clause-order : goal.returns-clause-order
returns-clause-order g c = c.in_ok-to_vec.ensures.items_if_clones_equal (λ x y same. same) ∙ c.order.ensures.value

pub returns-clause-reads : goal.returns-clause-reads
returns-clause-reads g c = c.in_ok-to_vec-2.ensures.items_if_clones_equal (λ x y same. same) ∙ c.reads.ensures.value
