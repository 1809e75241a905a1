use Rattle.std.proofs.Common.{below_more, refl}
use Rattle.std.proofs.lemmas.Option.{MatchOption-at_none, MatchOption-at_some}
use Rattle.reg_verify.specs.Stories.{GoesOn, IsBreach}
use Rattle.reg_verify.proofs.Judged.{all_go_on, never_story, passed_before}
use Rattle.reg_verify.proofs.stories.judging.judge_story.Goals as goal

pub breach_at-requires-clause-before : goal.breach_at-requires-clause-before
breach_at-requires-clause-before g c = passed_before c.args.reports.now c.loop-place.place c.loop-place.invariant

pub returns-in-Some : goal.returns-in-Some
returns-in-Some g c =
    let reports = c.args.reports.now in
    let place = c.loop-place.place in
    let here = MatchOption-at_some (GoesOn reports place) (λ breach. IsBreach reports place breach) c.in-Some.breach c.in-Some.is c.in_ok-breach.ensures in
    record { before = c.loop-place.invariant; here = here; never = never_story reports place c.in-Some.breach here }

pub loop-place-preserved : goal.loop-place-preserved
loop-place-preserved g c =
    let reports = c.args.reports.now in
    let place = c.loop-place.place in
    below_more (λ k. GoesOn reports k) place c.loop-place.invariant (MatchOption-at_none (GoesOn reports place) (λ breach. IsBreach reports place breach) c.in_default.is c.in_ok-breach.ensures)

pub returns : goal.returns
returns g c =
    (all_go_on c.args.reports.now c.loop-place.place c.requires c.loop-place-test.false c.loop-place.invariant, refl)
