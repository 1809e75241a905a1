use Rattle.std.proofs.Common.{◌∙◌, sym, length, arith}
use Rattle.std.proofs.lemmas.Result.{err_from_is_err_and}
use Rattle.reg_records.specs.RestParts.{IsGoingOn}
use Rattle.reg_records.proofs.GoingOn.{few_going}
use Rattle.reg_records.proofs.Settling.{nears_none, nears_both, nears_halts, settles, stops}
use Rattle.reg_records.proofs.resting.settle.Goals as goal

pub loop-round-init : goal.loop-round-init
loop-round-init g c =
    let start = g.F.FrontEnd.start in
    let old = c.args.world.now in
    let on : IsGoingOn start old = record { going = sym c.if-has_failed.ensures; accepted = c.events-before.ensures.all; history = sym c.history.ensures.value ∙ c.history.ensures.entries } in
    record {
      nears = nears_none start old on;
      events = omega arith;
    }

pub returns-in_default : goal.returns-in_default
returns-in_default g c =
    let start = g.F.FrontEnd.start in
    let a = c.events-before.ensures.value in
    let b = c.events.ensures.value in
    let l = c.loop-round.invariant.events in
    settles start g.met.F.FrontEnd.lawful c.args.world.now c.loop-round.world _ (sym c.if-has_failed.ensures) c.loop-round.invariant.nears c.in_default.ensures (omega (arith, a, b, l))

pub returns-in_err-tick_and_pass : goal.returns-in_err-tick_and_pass
returns-in_err-tick_and_pass g c =
    let start = g.F.FrontEnd.start in
    let old = c.args.world.now in
    let p = err_from_is_err_and c.from_residual.result c.from_residual.ensures.1 in
    rw (p.1, p.2) (stops start old c.tick_and_pass.new.world c.in_err-tick_and_pass.field-0.0 (sym c.if-has_failed.ensures)
    (nears_halts start old c.loop-round.world c.tick_and_pass.new.world c.in_err-tick_and_pass.field-0.0 c.loop-round.invariant.nears c.in_err-tick_and_pass.ensures.halts))

pub loop-round-preserved : goal.loop-round-preserved
loop-round-preserved g c =
    let start = g.F.FrontEnd.start in
    record {
      nears = nears_both start c.args.world.now c.loop-round.world c.tick_and_pass.new.world c.loop-round.invariant.nears c.in_ok-tick_and_pass.ensures.nears;
      events = let a = c.loop-round.invariant.events in let b = c.in_ok-tick_and_pass.ensures.more in omega (arith, a, b);
    }

pub unreachable-requires : goal.unreachable-requires
unreachable-requires g c =
    let start = g.F.FrontEnd.start in
    let few = few_going start c.loop-round.world c.loop-round.invariant.nears.moves.on in
    let a = c.loop-round.invariant.events in
    let b = c.loop-round-test.false in
    omega (arith, few, a, b)
