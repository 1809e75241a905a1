use Rattle.reg_node.proofs.Crashing.{crash_steps, crash_given, crash_bodies}
use Rattle.reg_node.proofs.laws.crash_keeps.Goals as goal

pub returns-clause-steps : goal.returns-clause-steps
returns-clause-steps c = crash_steps

pub returns-clause-given : goal.returns-clause-given
returns-clause-given c = crash_given

pub returns-clause-bodies : goal.returns-clause-bodies
returns-clause-bodies c =
    λ start first past n kept to number is le g. crash_bodies start first past n kept is to number le g
