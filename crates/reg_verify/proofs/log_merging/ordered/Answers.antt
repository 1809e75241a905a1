use Rattle.std.proofs.Common.{◌∙◌}
use Rattle.reg_verify.proofs.Gathered.{stuck_is}
use Rattle.reg_verify.proofs.log_merging.ordered.Goals as goal

pub returns-in-Err-Unfaithful-clause-fault : goal.returns-in-Err-Unfaithful-clause-fault
returns-in-Err-Unfaithful-clause-fault g c =
    stuck_is c.args.first.now c.args.logs.now c.entry_at.result c.start_in-front.result.0 c.start_in-front.result.1 c.deref.result.now c.in-Err-Unfaithful.field-0 c.in-Err-Unfaithful.line c.requires c.start_in-front.ensures.0 c.start_in-front.ensures.1
    (c.deref.ensures.value ∙ c.in_ok-steps.ensures.steps.0) c.in-Err-Unfaithful.field-0-is c.in-Err-Unfaithful.ensures.why c.entry_at.ensures
