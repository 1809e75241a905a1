use Rattle.std.proofs.Common.{sym, refl, ◌∙◌, inr, length-set}
use Rattle.reg_observed.proofs.Turning.{in_turn, out_of_turn, at_end, process_within}
use Rattle.reg_observed.proofs.turns.check_turns.Goals as goal

pub index_mut-requires : goal.index_mut-requires
index_mut-requires c = process_within c.args.events.now c.args.processes _ c.loop-event.event-index _ c.requires c.loop-event-test.true (c.loop-event.running.ok.0 ∙ c.loop-event.invariant.each)

pub loop-event-preserved : goal.loop-event-preserved
loop-event-preserved c =
    let lt = process_within c.args.events.now c.args.processes _ c.loop-event.event-index _ c.requires c.loop-event-test.true c.loop-event.invariant.each in
    record {
      rest = c.loop-event.invariant.rest ∙ in_turn c.args.events.now c.loop-event.running.items c.loop-event.event-index _ c.index.result.now c.loop-event-test.true lt c.index.ensures c.left_running.result (sym c.why_not.ensures ∙ c.in_default.is) c.left_running.ensures;
      each = length-set c.loop-event.running.items _ c.left_running.result ∙ c.loop-event.invariant.each;
    }

pub returns-in-Some-clause-wrong : goal.returns-in-Some-clause-wrong
returns-in-Some-clause-wrong c =
    let lt = process_within c.args.events.now c.args.processes _ c.loop-event.event-index _ c.requires c.loop-event-test.true c.loop-event.invariant.each in
    inr (_, _, refl, c.loop-event.invariant.rest ∙ out_of_turn c.args.events.now c.loop-event.running.items c.loop-event.event-index _ c.index.result.now c.loop-event-test.true lt c.index.ensures c.in-Some.why (sym c.why_not.ensures ∙ c.in-Some.is))

pub returns-clause-right : goal.returns-clause-right
returns-clause-right c = c.loop-event.invariant.rest ∙ at_end c.args.events.now c.loop-event.running.items c.loop-event.event-index c.loop-event-test.false
