use Rattle.std.proofs.Common.{arith, ◌≡◌, ◌<◌, ◌≤◌, length, min}
use Rattle.std.proofs.lemmas.Option.{slice_get-get_or}
use Rattle.reg_live.specs.Desks.{first_to}
use Rattle.reg_live.proofs.Looking.{looked_next, looked_all}
use Rattle.reg_live.proofs.pacers.look_at_links.Goals as goal

pub loop-other-preserved : goal.loop-other-preserved
loop-other-preserved g c =
    let within : c.loop-other.other < length c.loop-other.beats =
    let e = c.min-other-end.ensures in let l = c.loop-other-test.true in let a = c.loop-other.auto.beats in omega (arith, e, l, a) in
    looked_next (first_to c.args.station.now) c.args.beats.now c.loop-other.beats c.loop-other.other c.loop-other.due c.look-ticks.result c.if-mail.look c.first_to.result _ c.look-ticks.new.self c.loop-other.invariant c.first_to.ensures
    (slice_get-get_or c.loop-other.beats c.loop-other.other _ within) c.look-ticks.ensures.beat c.look-ticks.ensures.tick

pub returns : goal.returns
returns g c =
    let all : min (length c.args.beats.now) 64 ≤ c.loop-other.other = let e = c.min-other-end.ensures in let l = c.loop-other-test.false in omega (arith, e, l) in
    looked_all (first_to c.args.station.now) c.args.beats.now c.loop-other.beats c.loop-other.other c.loop-other.due c.loop-other.invariant all
