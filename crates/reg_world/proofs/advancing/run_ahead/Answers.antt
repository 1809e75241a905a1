use Rattle.std.proofs.Common.{◌≡◌, ◌<◌, ℕ, zero, suc, List, [], ◌∷◌, None, length, take, drop, sym, ap, ◌∙◌, subst}
use Rattle.std.proofs.Common.{false, arith}
use Rattle.std.specs.Prelude.{slice_get}
use Rattle.std.proofs.lemmas.List.{take_all}
use Rattle.reg_process.specs.declared.events.Event.{Event}
use Rattle.reg_world.specs.Worlds.{Accepts, Refuses, after_events, run_in}
use Rattle.reg_world.specs.WorldParts.{made_of}
use Rattle.reg_world.proofs.code.Ahead.{first_ahead, next_ahead}
use Rattle.reg_world.proofs.code.Answering.{run_refuses, run_goes_on}
use Rattle.reg_world.proofs.advancing.run_ahead.Goals as goal

-- an event is left
not_none : (at : ℕ) (events : List Event) → None ≡ slice_get (drop at events) 0 → at < length events → ⊥
not_none zero [] none l = omega arith
not_none zero (x ∷ xs) none l = cc
not_none (suc at) [] none l = omega arith
not_none (suc at) (x ∷ xs) none l = not_none at xs none (omega arith)

pub returns-in-Err-clause-made : goal.returns-in-Err-clause-made
returns-in-Err-clause-made g c =
    let b = c.args.book.now in
    let went = c.loop-at.invariant in
    let next = first_ahead c.loop-at.at b.ahead c.loop-at.book.ahead c.in-Some.event went.2 c.in-Some.ensures in
    let refuses = c.in-Err.ensures.made in
    run_refuses g.F.FrontEnd.start b.shape b.ahead c.loop-at.at c.in-Some.event c.in-Err.fault (made_of false c.loop-at.book) refuses.0 next.0 went.1.made
    (subst (λ (e : Event). Refuses g.F.FrontEnd.start (made_of false c.loop-at.book) e c.in-Err.fault refuses.0) (sym next.1) refuses.1)

pub loop-at-preserved : goal.loop-at-preserved
loop-at-preserved g c =
    let b = c.args.book.now in
    let went = c.loop-at.invariant in
    let next = first_ahead c.loop-at.at b.ahead c.loop-at.book.ahead c.in-Some.event went.2 c.in-Some.ensures in
    let on = c.in_default-step_parts.ensures.made in (
      on.world,
      run_goes_on g.F.FrontEnd.start b.shape b.ahead c.loop-at.at c.in-Some.event (made_of false c.loop-at.book) (made_of false c.step_parts.new.book) next.0 went.1
          (subst (λ (e : Event). Accepts g.F.FrontEnd.start (made_of false c.loop-at.book) e (made_of false c.step_parts.new.book)) (sym next.1) on.accepts),
      next_ahead c.loop-at.at b.ahead c.loop-at.book.ahead c.step_parts.new.book.ahead went.2 on.ahead,
    )

pub step_parts-requires : goal.step_parts-requires
step_parts-requires g c = c.loop-at.invariant.0

pub returns-in-Err-clause-accepted : goal.returns-in-Err-clause-accepted
returns-in-Err-clause-accepted g c = c.loop-at.invariant.1.all

pub returns-clause-world : goal.returns-clause-world
returns-clause-world g c = c.loop-at.invariant.0

pub returns-clause-made : goal.returns-clause-made
returns-clause-made g c =
    let b = c.args.book.now in
    let whole : take c.loop-at.at b.ahead ≡ b.ahead = take_all c.loop-at.at b.ahead (omega (arith, c.loop-at-test.false, c.requires.count)) in
    c.loop-at.invariant.1.made ∙ ap (after_events g.F.FrontEnd.start b.shape) whole

pub returns-clause-accepted : goal.returns-clause-accepted
returns-clause-accepted g c =
    let b = c.args.book.now in
    let whole : take c.loop-at.at b.ahead ≡ b.ahead = take_all c.loop-at.at b.ahead (omega (arith, c.loop-at-test.false, c.requires.count)) in
    subst (λ (z : List Event). (run_in g.F.FrontEnd.start (after_events g.F.FrontEnd.start b.shape z)).accepted ≡ z) whole c.loop-at.invariant.1.all

pub loop-at-smaller : goal.loop-at-smaller
loop-at-smaller g c = omega (arith, c.loop-at-test.true)

pub unreachable-requires : goal.unreachable-requires
unreachable-requires g c =
    let b = c.args.book.now in
    not_none c.loop-at.at b.ahead (subst (λ (l : List Event). None ≡ slice_get l 0) c.loop-at.invariant.2 c.in_default.ensures) (omega (arith, c.loop-at-test.true, c.requires.count))
