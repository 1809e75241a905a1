use Rattle.std.proofs.Common.{length, ap, ◌∙◌, sym}
use Rattle.reg_base.specs.Shape.{Extent}
use Rattle.reg_process.specs.Process.{State}
use Rattle.reg_world.proofs.one_order.NodeLaws.{inv_of}
use Rattle.reg_trace.proofs.data.looks.look_in.Goals as goal

pub look_at-requires-clause-me : goal.look_at-requires-clause-me
look_at-requires-clause-me g c =
    let w = c.args.world.now in
    let own = (inv_of g.F.FrontEnd.start w.processes w.registers w.accepted).local c.args.process c.requires.process in
    ap (λ (s : State). s.me) (c.in-Some.ensures.process.1 c.requires.going).1 ∙ own.me

pub look_at-requires-clause-all : goal.look_at-requires-clause-all
look_at-requires-clause-all g c =
    let w = c.args.world.now in
    let own = (inv_of g.F.FrontEnd.start w.processes w.registers w.accepted).local c.args.process c.requires.process in
    ap (λ (s : State). length s.peers) (c.in-Some.ensures.process.1 c.requires.going).1 ∙ (own.size ∙ sym (ap (λ (e : Extent). e.processes) c.shape.ensures))
