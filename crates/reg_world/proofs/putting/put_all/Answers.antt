use Rattle.std.proofs.Common.{◌≡◌, length, ap, ◌∙◌, arith, refl}
use Rattle.reg_process.specs.Puts.{puts}
use Rattle.reg_process.specs.Sending.{sent_frames}
use Rattle.reg_world.specs.Sent.{sent}
use Rattle.reg_world.proofs.OnWires.{has_wire, more_sent, length-sent}
use Rattle.reg_world.proofs.putting.put_all.Goals as goal

pub loop-to-init : goal.loop-to-init
loop-to-init g c = refl

pub put_one-requires : goal.put_one-requires
put_one-requires g c = λ some.
    let before = g.W.WireStore.wires c.args.wires.now in
    let size = ap length c.loop-to.invariant ∙ length-sent (puts (sent_frames c.args.sent.now) c.loop-to.to) before in
    let t = c.loop-to-test.true in
    let l = has_wire (sent_frames c.args.sent.now) c.loop-to.to c.args.processes (length before) c.requires (omega (arith, t)) some in
    omega (arith, l, size)

pub loop-to-preserved : goal.loop-to-preserved
loop-to-preserved g c = more_sent (sent_frames c.args.sent.now) c.loop-to.to (g.W.WireStore.wires c.args.wires.now) (g.W.WireStore.wires c.loop-to.wires) (g.W.WireStore.wires c.put_one.new.wires) c.loop-to.invariant c.in_ok-put_one.ensures

pub returns : goal.returns
returns g c =
    let end : c.loop-to.to ≡ c.args.processes = let t = c.loop-to-test.false in omega (arith, t) in
    c.loop-to.invariant ∙ ap (λ n. sent (puts (sent_frames c.args.sent.now) n) (g.W.WireStore.wires c.args.wires.now)) end
