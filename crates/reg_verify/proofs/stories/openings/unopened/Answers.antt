use Rattle.std.proofs.Common.{◌≡◌, true, false, sym, ◌∙◌}
use Rattle.reg_verify.proofs.Opened.{unopened_so}
use Rattle.reg_verify.proofs.stories.openings.unopened.Goals as goal

pub returns : goal.returns
returns g c =
    unopened_so c.args.last c.args.writes.now c.args.report.now c.first_unopened.result
    (λ both. let clash : true ≡ false = sym (c.ended_opening.ensures.1 both) ∙ c.if-ended_opening.false in absurd (cc)) c.first_unopened.ensures
