use Rattle.std.proofs.Common.{◌≡◌, List, [], length, get_or, ap, sym, subst, ◌∙◌, arith, refl}
use Rattle.reg_base.specs.Order.{In}
use Rattle.reg_frames.specs.declared.bodies.Frame.{Frame}
use Rattle.reg_process.specs.Process.{resent}
use Rattle.reg_process.specs.Puts.{puts}
use Rattle.reg_world.specs.Sent.{sent}
use Rattle.reg_world.proofs.OnWires.{more_sent, length-sent, still_on}
use Rattle.reg_world.proofs.putting.put_again.Goals as goal

pub loop-to-init : goal.loop-to-init
loop-to-init g c = refl

pub put_again_to-requires-clause-within : goal.put_again_to-requires-clause-within
put_again_to-requires-clause-within g c =
    let size = ap length c.loop-to.invariant ∙ length-sent (puts (resent c.args.process.now.state) c.loop-to.to) (g.W.WireStore.wires c.args.wires.now) in
    let t = c.loop-to-test.true in
    let e = c.processes-to-end.ensures.value in
    let r = c.requires.within in
    omega (arith, size, t, e, r)

pub put_again_to-requires-clause-out : goal.put_again_to-requires-clause-out
put_again_to-requires-clause-out g c = λ f i.
    let before = g.W.WireStore.wires c.args.wires.now in
    let t = c.loop-to-test.true in
    let e = c.processes-to-end.ensures.value in
    let on = c.requires.out c.loop-to.to (omega (arith, t, e)) f i in
    subst (λ (wires : List (List Frame)). In f (get_or wires c.loop-to.to [])) (sym c.loop-to.invariant) (still_on (puts (resent c.args.process.now.state) c.loop-to.to) before c.loop-to.to f on)

pub loop-to-preserved : goal.loop-to-preserved
loop-to-preserved g c = more_sent (resent c.args.process.now.state) c.loop-to.to (g.W.WireStore.wires c.args.wires.now) (g.W.WireStore.wires c.loop-to.wires) (g.W.WireStore.wires c.put_again_to.new.wires) c.loop-to.invariant c.in_ok-put_again_to.ensures

pub returns : goal.returns
returns g c =
    let end : c.loop-to.to ≡ length c.args.process.now.state.peers = let t = c.loop-to-test.false in let e = c.processes-to-end.ensures.value in omega (arith, t, e) in
    c.loop-to.invariant ∙ ap (λ n. sent (puts (resent c.args.process.now.state) n) (g.W.WireStore.wires c.args.wires.now)) end
