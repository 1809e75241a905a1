use Rattle.std.proofs.Common.{List, ◌≡◌, ◌++◌, ◌∙◌, ap, ap₂, arith, length, refl, subst, take}
use Rattle.std.proofs.lemmas.List.{take_all}
use Rattle.reg_process.specs.declared.events.Event.{Event}
use Rattle.reg_world.specs.Worlds.{Made, after_events, run_in}
use Rattle.reg_world.proofs.code.Answering.{run_goes_on, run_refuses}
use Rattle.reg_trace.specs.Moments.{Fact, moments_from, moments_of}
use Rattle.reg_trace.proofs.Behind.{all_told, one_told}
use Rattle.reg_trace.proofs.Moving.{fault_refuses}
use Rattle.reg_trace.specs.Looks.{Look, looks_from, looks_of}
use Rattle.reg_trace.proofs.Looking.{all_told as all_looks, one_told as one_look}
use Rattle.reg_trace.proofs.data.watching.watch_states.Goals as goal

pub loop-at-init : goal.loop-at-init
loop-at-init g c = record {
  ran = record { made = c.in-Ok.ensures; all = refl };
  told = ap₂ (λ (l : List Fact) (w : Made). l ++ moments_from g.F.FrontEnd.start w c.args.events.now) c.new-2.ensures.items c.in-Ok.ensures;
  states = ap₂ (λ (l : List Look) (w : Made). l ++ looks_from g.F.FrontEnd.start w c.args.events.now) c.new-3.ensures.items c.in-Ok.ensures;
}

pub make-requires : goal.make-requires
make-requires g c = ap (λ (w : Made). w.failed) c.loop-at.invariant.ran.made

pub returns-in-Err-clause-refused : goal.returns-in-Err-clause-refused
returns-in-Err-clause-refused g c = λ other.
    run_refuses g.F.FrontEnd.start c.args.shape c.args.events.now c.loop-at.at _ c.in-Err.fault c.loop-at.watched.world c.loop-at.watched.world c.loop-at-test.true c.loop-at.invariant.ran.made
    (fault_refuses g.F.FrontEnd.start c.loop-at.watched.world _ c.in-Err.fault other (c.in-Err.ensures.refused other))

pub returns-in-Err-clause-accepted : goal.returns-in-Err-clause-accepted
returns-in-Err-clause-accepted g c = λ _. c.loop-at.invariant.ran.all

pub loop-at-preserved : goal.loop-at-preserved
loop-at-preserved g c =
    let start = g.F.FrontEnd.start in
    let old = c.loop-at.watched in
    let new = c.make.new.self in
    let made = c.in_default-make.ensures in
    let events = c.args.events.now in
    record {
      ran = run_goes_on start c.args.shape events c.loop-at.at _ old.world new.world c.loop-at-test.true c.loop-at.invariant.ran made.made;
      told = one_told start old.world new.world old.moments.items new.moments.items (moments_of start c.args.shape events) _ events c.loop-at.at _ c.loop-at-test.true made.made.after refl made.told c.loop-at.invariant.told;
      states = one_look start old.world new.world old.looks.items new.looks.items (looks_of start c.args.shape events) _ events c.loop-at.at _ c.loop-at-test.true made.made.after refl made.state c.loop-at.invariant.states;
    }

pub returns-clause-world : goal.returns-clause-world
returns-clause-world g c =
    let whole : take c.loop-at.at c.args.events.now ≡ c.args.events.now = take_all c.loop-at.at c.args.events.now (omega arith) in
    c.loop-at.invariant.ran.made ∙ ap (after_events g.F.FrontEnd.start c.args.shape) whole

pub returns-clause-accepted : goal.returns-clause-accepted
returns-clause-accepted g c =
    let whole : take c.loop-at.at c.args.events.now ≡ c.args.events.now = take_all c.loop-at.at c.args.events.now (omega arith) in
    subst (λ (z : List Event). (run_in g.F.FrontEnd.start (after_events g.F.FrontEnd.start c.args.shape z)).accepted ≡ z) whole c.loop-at.invariant.ran.all

pub returns-clause-told : goal.returns-clause-told
returns-clause-told g c = all_told g.F.FrontEnd.start c.loop-at.watched.world c.loop-at.watched.moments.items (moments_of g.F.FrontEnd.start c.args.shape c.args.events.now) c.args.events.now c.loop-at.at (omega arith) c.loop-at.invariant.told

pub returns-clause-states : goal.returns-clause-states
returns-clause-states g c = all_looks g.F.FrontEnd.start c.loop-at.watched.world c.loop-at.watched.looks.items (looks_of g.F.FrontEnd.start c.args.shape c.args.events.now) c.args.events.now c.loop-at.at (omega arith) c.loop-at.invariant.states
