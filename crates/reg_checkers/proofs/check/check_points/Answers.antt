use Rattle.reg_checkers.proofs.check.check_points.Goals as goal

pub returns : goal.returns
returns g c = rw (c.shape.ensures, c.entries.ensures.value) at c.judge_points.ensures
