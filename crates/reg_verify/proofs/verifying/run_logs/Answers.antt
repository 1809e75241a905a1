use Rattle.std.proofs.Common.{inl, inr, refl}
use Rattle.reg_verify.proofs.verifying.run_logs.Goals as goal

pub returns-in-Err-Unfaithful-clause-why : goal.returns-in-Err-Unfaithful-clause-why
returns-in-Err-Unfaithful-clause-why g c =
    inr (c.in-Err-Unfaithful.place, refl, rw c.in-Err-Unfaithful.field-0-is at c.in-Err-Unfaithful.ensures)

pub returns-in-Err-OutOfMemory-clause-why : goal.returns-in-Err-OutOfMemory-clause-why
returns-in-Err-OutOfMemory-clause-why g c = inl refl
