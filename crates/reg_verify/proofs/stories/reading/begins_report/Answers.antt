use Rattle.std.proofs.Common.{◌≡◌, ◌==◌, get_or, true, rules}
use Rattle.reg_verify.proofs.StoryCuts.{seam_is}
use Rattle.reg_verify.proofs.stories.reading.begins_report.Goals as goal

pub returns-then-text-place-eq10 : goal.returns-then-text-place-eq10
returns-then-text-place-eq10 c =
    let here : (get_or c.args.text.now c.args.place 0 == 10) ≡ true = search rules in
    seam_is c.args.text.now c.args.place c.starts_with.result here c.starts_with.ensures.value
