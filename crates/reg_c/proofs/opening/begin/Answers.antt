use Rattle.std.proofs.Common.{inl}
use Rattle.reg_node.specs.declared.transcripts.logs.LogFault.TheVariants.{OutOfMemory}
use Rattle.reg_c.proofs.opening.begin.Goals as goal

pub returns-in_default-clause-why : goal.returns-in_default-clause-why
returns-in_default-clause-why c =
    let told = c.refusal_of_log.ensures.told in (c.refusal_of_log.ensures.refused, inl (record { fault = OutOfMemory; why = tt; told = told.0; at = told.1 }))

pub returns-in_default-new-clause-why : goal.returns-in_default-new-clause-why
returns-in_default-new-clause-why c =
    let told = c.refusal_of_log-in_default-new.ensures.told in (c.refusal_of_log-in_default-new.ensures.refused, inl (record { fault = OutOfMemory; why = tt; told = told.0; at = told.1 }))
