use Rattle.std.proofs.Common.{refl, inl, inr}
use Rattle.reg_checkers.proofs.check.check_places.Goals as goal

pub returns-in-Some-clause-wrong : goal.returns-in-Some-clause-wrong
returns-in-Some-clause-wrong c = inl (c.in-Some.place, refl, c.in-Some.ensures)

pub returns-in-Some-first_falling-clause-wrong : goal.returns-in-Some-first_falling-clause-wrong
returns-in-Some-first_falling-clause-wrong c =
    inr (c.in-Some-first_falling.place, refl, c.in_default.ensures, c.in-Some-first_falling.ensures)

pub returns-in-None-clause-right : goal.returns-in-None-clause-right
returns-in-None-clause-right c = (c.in_default.ensures, c.in-None.ensures)
