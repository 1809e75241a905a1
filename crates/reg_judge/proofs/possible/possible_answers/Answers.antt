use Rattle.std.proofs.Common.{List, subst, sym}
use Rattle.reg_base.specs.declared.memory.Answer.{Answer}
use Rattle.reg_judge.specs.Candidates.{AreCandidates}
use Rattle.reg_judge.proofs.Trying.{possible_of_candidates}
use Rattle.reg_judge.proofs.possible.possible_answers.Goals as goal

pub returns-in_ok-possible_of-in-Some : goal.returns-in_ok-possible_of-in-Some
returns-in_ok-possible_of-in-Some g c =
    let entries = c.args.history.now.entries in
    let found : AreCandidates 1 entries c.args.place c.in-Some.answers.items = rw c.in-Some.is at c.in_ok-answers.ensures in
    let complete : AreCandidates 1 entries c.args.place c.deref.result.now = subst (λ (l : List Answer). AreCandidates 1 entries c.args.place l) (sym c.deref.ensures.value) found in
    possible_of_candidates 1 entries c.args.place c.deref.result.now c.in_ok-possible_of-in-Some.field-0.items complete c.in_ok-possible_of-in-Some.ensures
