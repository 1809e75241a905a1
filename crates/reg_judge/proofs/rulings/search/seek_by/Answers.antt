use Rattle.std.proofs.Common.{ℕ, List, subst}
use Rattle.reg_checkers.specs.declared.entries.Entry.{Entry}
use Rattle.reg_judge.specs.Firsts.{IsAnswerAt, IsFirstNot}
use Rattle.reg_judge.proofs.Earliest.{unexplained}
use Rattle.reg_judge.proofs.rulings.search.seek_by.Goals as goal

pub returns-in-Some : goal.returns-in-Some
returns-in-Some g c =
    let P : List Entry → Type 0 = λ entries. (at : ℕ) × IsFirstNot c.args.rulings.now at × IsAnswerAt entries at c.in-Some.place in
    unexplained c.args.history.now.shape.processes c.args.history.now.shape.registers c.args.history.now.entries c.args.rulings.now c.in-Some.place c.entries.ensures.in_place c.requires (subst P c.entries.ensures.value c.in-Some.ensures)
