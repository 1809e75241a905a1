use Rattle.std.proofs.Common.{◌++◌, ◌∙◌, ap}
use Rattle.reg_observed.proofs.Numbering.{stored_here, inserted}
use Rattle.reg_observed.proofs.words.Words.number.Goals as goal

pub returns-clause-here : goal.returns-clause-here
returns-clause-here c =
    let told = c.in_ok-place.ensures.stored in
    stored_here c.insert_full.new.self.keys c.in_ok-place.place c.args.word told.0 told.1 told.2

pub returns-clause-kept : goal.returns-clause-kept
returns-clause-kept c =
    let more = inserted c.self.inside.set.keys c.insert_full.new.self.keys c.args.word c.in_ok-place.ensures.keys in
    (more.0, more.1 ∙ ap (λ l. l ++ more.0) c.self.view_is)
