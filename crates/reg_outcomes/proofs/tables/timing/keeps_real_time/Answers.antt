use Rattle.std.proofs.Common.{refl, subst, List, take_all}
use Rattle.std.specs.BTreeMap.{get}
use Rattle.reg_checkers.specs.declared.entries.Entry.{Entry}
use Rattle.reg_outcomes.specs.Timing.{IsInTime, id_cmp}
use Rattle.reg_outcomes.proofs.InTime.{at_get, few_places, in_time, in_time_step, late, never}
use Rattle.reg_outcomes.proofs.tables.timing.keeps_real_time.Goals as goal

pub next_bound-requires : goal.next_bound-requires
next_bound-requires g c id =
    few_places c.args.order.now (get id_cmp c.in_ok-places.places id) id c.in_ok-places.ensures.few (c.in_ok-places.ensures.places id)

pub returns-in-None : goal.returns-in-None
returns-in-None g c =
    let history = c.requires.history in
    never (late history.0 history.1 c.args.entries.now history.2 c.args.order.now c.loop-entry.entry-index _ (get id_cmp c.in_ok-places.places) c.loop-entry.bound c.in_ok-places.ensures.places c.loop-entry.invariant
    (at_get c.args.entries.now c.loop-entry.entry-index _ c.loop-entry-test.true) c.in-None.ensures)

pub loop-entry-preserved : goal.loop-entry-preserved
loop-entry-preserved g c =
    let history = c.requires.history in
    in_time_step history.0 history.1 c.args.entries.now history.2 c.args.order.now c.loop-entry.entry-index _ (get id_cmp c.in_ok-places.places) c.loop-entry.bound c.in-Some.next c.requires.distinct c.in_ok-places.ensures.places c.loop-entry.invariant c.in-Some.ensures
    (at_get c.args.entries.now c.loop-entry.entry-index _ c.loop-entry-test.true)

pub returns : goal.returns
returns g c =
    let history = c.requires.history in
    let all : IsInTime c.args.entries.now c.args.order.now c.loop-entry.bound = subst (λ (es : List Entry). IsInTime es c.args.order.now c.loop-entry.bound) (take_all c.loop-entry.entry-index c.args.entries.now c.loop-entry-test.false) c.loop-entry.invariant in
    (λ _. in_time history.0 history.1 c.args.entries.now history.2 c.args.order.now c.loop-entry.bound all, λ _. refl)
