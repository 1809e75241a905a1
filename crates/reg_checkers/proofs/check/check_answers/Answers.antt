use Rattle.std.proofs.Common.{refl, inl, inr}
use Rattle.reg_checkers.proofs.check.check_answers.Goals as goal

pub returns-in-Ok-None-clause-right : goal.returns-in-Ok-None-clause-right
returns-in-Ok-None-clause-right g c = rw c.in-Ok-None.field-0-is at c.in-Ok-None.ensures

pub returns-in-Ok-Some-clause-wrong : goal.returns-in-Ok-Some-clause-wrong
returns-in-Ok-Some-clause-wrong g c =
    inr (c.in-Ok-Some.place, refl, (rw c.in-Ok-Some.field-0-is at c.in-Ok-Some.ensures))

pub returns-in-Err-clause-wrong : goal.returns-in-Err-clause-wrong
returns-in-Err-clause-wrong g c = inl refl
