use Rattle.std.proofs.Common.{rules}
use Rattle.reg_world.proofs.OnWires.{resent_is, all_at_once}
use Rattle.reg_world.proofs.putting.put_again_to.Goals as goal

pub returns-then-branch : goal.returns-then-branch
returns-then-branch g c =
    let s = c.args.process.now.state in
    all_at_once s c.args.to c.min-count.result c.in-Some.known (g.W.WireStore.wires c.args.wires.now) (g.W.WireStore.wires c.put_again.new.self) (resent_is s c.args.to c.resend.result c.resend.ensures (search rules)) c.in-Some.ensures.value c.min-count.ensures c.requires.within c.requires.out (c.in_ok-put_again.ensures.again c.if-branch.true)
