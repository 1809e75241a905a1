use Rattle.std.proofs.Common.{map, refl, subst}
use Rattle.reg_outcomes.specs.Showing.{IsRunOf}
use Rattle.reg_outcomes.proofs.turning.run_outcome.Goals as goal

pub take_turns-requires-clause-room : goal.take_turns-requires-clause-room
take_turns-requires-clause-room g c = c.if-not-has_room.ensures.0 refl

pub returns-clause-run : goal.returns-clause-run
returns-clause-run g c = subst (λ r. IsRunOf g.F.FrontEnd.start (map (λ v. v.items) c.args.scripts.now) r c.args.outcome.now c.take_turns.new.world) c.registers-registers.ensures.value c.in_ok-take_turns.ensures

pub returns-clause-room : goal.returns-clause-room
returns-clause-room g c = c.if-not-has_room.ensures.0 refl
