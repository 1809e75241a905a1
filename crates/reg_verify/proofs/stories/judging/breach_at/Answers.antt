use Rattle.std.proofs.Common.{◌≡◌, ◌+◌, ◌-◌, Option, refl, arith}
use Rattle.std.specs.Prelude.{MatchOption}
use Rattle.std.proofs.lemmas.Option.{MatchOption-at_none}
use Rattle.std.proofs.lemmas.Result.{IfOk-weaker}
use Rattle.reg_verify.specs.declared.stories.breaches.Breach.{Breach}
use Rattle.reg_verify.specs.Stories.{Follows, IsBreachBehind, IsRefused, Passes, is_last}
use Rattle.reg_verify.proofs.Gathered.{at_index}
use Rattle.reg_verify.proofs.Judged.{goes_so}
use Rattle.reg_verify.proofs.stories.judging.breach_at.Goals as goal

pub returns : goal.returns
returns g c =
    let reports = c.args.reports.now in
    let place = c.args.place in
    let report = c.index-reports-place.result in
    let before = c.index-reports-place-2.result in
    let passed = MatchOption-at_none (Passes report) (λ breach. IsRefused report breach) c.in_default.is c.in_ok-breach.ensures in
    let behind : place ≡ place - 1 + 1 = omega (arith, c.if-place-eq0.false) in
    IfOk-weaker c.breach_behind.result (λ (o : Option Breach). MatchOption o (Follows (is_last reports place) before report) (λ breach. IsBreachBehind (is_last reports place) before report breach)) _
    (λ o m. goes_so reports place (place - 1) before report (is_last reports place) o (at_index reports place report c.requires.within c.index-reports-place.is) passed behind (at_index reports (place - 1) before (omega (arith, c.requires.within)) c.index-reports-place-2.is) refl m) c.breach_behind.ensures
