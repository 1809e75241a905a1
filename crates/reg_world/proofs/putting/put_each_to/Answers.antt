use Rattle.std.proofs.Common.{length, map, take, ap, ◌∙◌, arith, refl}
use Rattle.reg_process.specs.Process.{resent}
use Rattle.reg_process.specs.Puts.{put_to}
use Rattle.reg_process.proofs.Again.{resent_few}
use Rattle.reg_world.specs.Sent.{sent}
use Rattle.reg_world.proofs.OnWires.{again_sent, all_again, length-sent}
use Rattle.reg_world.proofs.putting.put_each_to.Goals as goal

pub loop-place-init : goal.loop-place-init
loop-place-init g c = refl

pub put-requires : goal.put-requires
put-requires g c =
    let size = ap length c.loop-place.invariant ∙ length-sent (map (put_to c.args.to) (take c.loop-place.place (resent c.args.process.now.state c.args.to))) (g.W.WireStore.wires c.args.wires.now) in
    let r = c.requires in
    omega (arith, size, r)

pub loop-place-preserved : goal.loop-place-preserved
loop-place-preserved g c = again_sent c.args.to c.loop-place.place (resent c.args.process.now.state c.args.to) c.in-Some.frame (g.W.WireStore.wires c.args.wires.now) (g.W.WireStore.wires c.loop-place.wires) (g.W.WireStore.wires c.put.new.self) c.in-Some.ensures c.loop-place.invariant c.in_ok-put.ensures

pub returns-in_default : goal.returns-in_default
returns-in_default g c =
    let fs = resent c.args.process.now.state c.args.to in
    c.loop-place.invariant ∙ ap (λ l. sent (map (put_to c.args.to) l) (g.W.WireStore.wires c.args.wires.now)) (all_again fs c.loop-place.place c.in_default.ensures)

pub returns : goal.returns
returns g c =
    let fs = resent c.args.process.now.state c.args.to in
    let end = c.loop-place-test.false in
    c.loop-place.invariant ∙ ap (λ l. sent (map (put_to c.args.to) l) (g.W.WireStore.wires c.args.wires.now)) (resent_few c.args.process.now.state c.args.to c.loop-place.place (omega (arith, end)))
