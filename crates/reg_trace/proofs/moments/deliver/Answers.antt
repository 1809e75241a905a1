use Rattle.std.proofs.Common.{ap, ap₂, ◌∙◌, unwrap_or}
use Rattle.std.specs.Prelude.{slice_index}
use Rattle.reg_trace.proofs.Behind.{value_is}
use Rattle.reg_trace.proofs.moments.deliver.Goals as goal

pub returns-clause-value : goal.returns-clause-value
returns-clause-value g c =
    c.unwrap_or-value.ensures ∙ (ap (λ o. unwrap_or o 0) c.get.ensures ∙ (value_is c.apply-answer.new.self c.register.result ∙ ap₂ slice_index c.apply-answer.ensures.memory c.register.ensures))
