use Rattle.std.proofs.Common.{rules, arith, subst}
use Rattle.std.proofs.lemmas.Grind.{common_steps}
use Rattle.std.proofs.lemmas.Result.{err_from_is_err_and}
use Rattle.reg_live.specs.Desks.{Desk, IsLeft}
use Rattle.reg_live.proofs.Keeping.{told_left, told_refuses}
use Rattle.reg_live.proofs.stations.Station.section.Goals as goal

pub returns-in-Err-clause-same : goal.returns-in-Err-clause-same
returns-in-Err-clause-same g c = grind (arith, common_steps)

pub returns-in-Ok-clause-own : goal.returns-in-Ok-clause-own
returns-in-Ok-clause-own g c = search rules

pub returns-in-Ok-clause-frames : goal.returns-in-Ok-clause-frames
returns-in-Ok-clause-frames g c = search rules

pub returns-in-Ok-clause-sends : goal.returns-in-Ok-clause-sends
returns-in-Ok-clause-sends g c = search rules

pub returns-in_err-frames-clause-refusal : goal.returns-in_err-frames-clause-refusal
returns-in_err-frames-clause-refusal g c =
    let p = err_from_is_err_and c.from_residual.result c.from_residual.ensures.1 in
    let told = c.in_err-frames.ensures.refusal in
    rw (p.1, p.2, told.same) (told_refuses c.args.registers c.args.request.floor c.args.request.step told.fault)

pub returns-in_err-frames-clause-left : goal.returns-in_err-frames-clause-left
returns-in_err-frames-clause-left g c =
    let p = err_from_is_err_and c.from_residual.result c.from_residual.ensures.1 in
    let start = g.F.FrontEnd.start in
    let new = c.advance-made.new.self in
    let left : IsLeft start c.make_room.new.self c.args.request.step new = told_left start c.make_room.new.self new c.args.request.step _ c.in_err-frames.ensures.refusal in
    rw p.1 (subst (λ (s : Desk). IsLeft start s c.args.request.step new) c.make_room.ensures.same left)
