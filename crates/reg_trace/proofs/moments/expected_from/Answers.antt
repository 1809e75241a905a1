use Rattle.std.proofs.Common.{length, ap, ◌∙◌}
use Rattle.reg_process.specs.Process.{State}
use Rattle.reg_world.proofs.one_order.NodeLaws.{inv_of}
use Rattle.reg_trace.proofs.Behind.{is_peer}
use Rattle.reg_trace.proofs.moments.expected_from.Goals as goal

pub unreachable-requires : goal.unreachable-requires
unreachable-requires g c =
    let w = c.args.world.now in
    let own = (inv_of g.F.FrontEnd.start w.processes w.registers w.accepted).local c.args.to c.requires.to in
    let same = (c.in-Some.ensures.process.1 c.requires.going).1 in
    is_peer c.in-Some.process.now.state w.processes c.args.from c.args.to (ap (λ (s : State). length s.peers) same ∙ own.size) (ap (λ (s : State). s.me) same ∙ own.me) c.requires.from c.requires.other c.in-None-known.ensures.value
