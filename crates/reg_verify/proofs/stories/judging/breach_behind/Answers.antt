use Rattle.std.proofs.Common.{◌≡◌, Option, length, ap, ◌∙◌, arith}
use Rattle.std.specs.Prelude.{MatchOption}
use Rattle.std.proofs.lemmas.Result.{IfOk-weaker}
use Rattle.reg_node.specs.Openings.{opening_of}
use Rattle.reg_verify.specs.declared.stories.breaches.Breach.{Breach}
use Rattle.reg_verify.specs.Stories.{IsOpened, IsUnopened}
use Rattle.reg_verify.proofs.Judged.{behind_so, few_in_opening, order_called}
use Rattle.reg_verify.proofs.stories.judging.breach_behind.Goals as goal

pub values_after-requires : goal.values_after-requires
values_after-requires g c = order_called c.args.before.now c.requires

pub unopened-requires : goal.unopened-requires
unopened-requires g c =
    let values = c.in_ok-values.values.items in
    let is : c.deref-2.result.now ≡ opening_of values = c.deref-2.ensures.value ∙ (c.in_ok-writes.ensures ∙ ap opening_of c.deref.ensures.value) in
    let long = ap length is in
    let few = few_in_opening values in
    omega (arith, long, few, c.in_ok-values.ensures.few)

pub returns : goal.returns
returns g c =
    let values = c.in_ok-values.values.items in
    let writes = c.deref-2.result.now in
    let is : writes ≡ opening_of values = c.deref-2.ensures.value ∙ (c.in_ok-writes.ensures ∙ ap opening_of c.deref.ensures.value) in
    IfOk-weaker c.unopened.result (λ (o : Option Breach). MatchOption o (IsOpened c.args.last writes c.args.report.now) (λ breach. IsUnopened writes c.args.report.now breach × ¬ IsOpened c.args.last writes c.args.report.now)) _
    (λ o m. behind_so c.args.last c.args.before.now c.args.report.now values writes o c.requires.good c.in_default.ensures c.in_ok-values.ensures.ends is m) c.unopened.ensures
