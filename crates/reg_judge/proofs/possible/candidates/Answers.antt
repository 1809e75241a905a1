use Rattle.std.proofs.Common.{ℕ, ◌<◌, ◌≡◌, List, Some, length, subst, sym}
use Rattle.reg_checkers.specs.declared.entries.Entry.{Entry}
use Rattle.reg_checkers.specs.declared.entries.Entry.TheVariants.{Answered}
use Rattle.reg_checkers.specs.History.{IsAt, IsHistory}
use Rattle.reg_checkers.specs.Table.{IsTable, Rows, cell}
use Rattle.reg_checkers.proofs.Noting.{read_at}
use Rattle.reg_judge.specs.Candidates.{AreAnswersOf, AreLeft, IsSince}
use Rattle.reg_judge.proofs.Replacing.{complete}
use Rattle.reg_judge.proofs.possible.candidates.Goals as goal

pub returns-in-Some-2 : goal.returns-in-Some-2
returns-in-Some-2 g c =
    let h = c.args.history.now in
    let part = c.in_ok-part.part.entries in
    let rows = c.in_ok-rows.rows.items in
    let fact = c.in-Some.fact in
    let since = c.last_change-since.result in
    let good : IsHistory h.shape.processes 1 h.entries = subst (λ (r : ℕ). IsHistory h.shape.processes r h.entries) c.requires.one c.entries.ensures.in_place in
    let answered = Answered c.in-Answered.at c.in-Answered.id c.in-Answered.answer in
    let here : IsAt h.entries c.args.place answered = subst (λ (l : List Entry). IsAt l c.args.place answered) c.entries.ensures.value (read_at c.entries.result.now c.args.place _ answered c.in-Answered.is (subst (λ (l : List Entry). c.args.place < length l) (sym c.entries.ensures.value) c.requires.inside)) in
    let table : IsTable part rows = subst (λ (l : List Entry). IsTable l rows) c.entries-2.ensures.value c.in_ok-rows.ensures.table in
    let is : cell rows c.in-Answered.id ≡ Some fact = subst (λ (l : Rows _). cell l c.in-Answered.id ≡ Some fact) c.deref.ensures.value (sym c.in-Some.ensures) in
    let changed : IsSince part fact.called since = subst (λ (l : List Entry). IsSince l fact.called since) c.entries-3.ensures.value c.last_change-since.ensures in
    let found = rw c.in-Some-2.is at c.in_ok-values.ensures in
    let values = c.in-Some-2.values.items in
    let left : AreLeft rows part since values = subst (λ (l : Rows _). AreLeft l part since values) c.deref-3.ensures.value (subst (λ (l : List Entry). AreLeft c.deref-3.result.now l since values) c.entries-4.ensures.value found) in
    let answers = c.in_ok-answers_of-in-Some-2.field-0.items in
    let those : AreAnswersOf values answers = subst (λ (l : List ℕ). AreAnswersOf l answers) c.deref-in-Some-2.ensures.value c.in_ok-answers_of-in-Some-2.ensures in
    complete h.shape.processes h.entries good c.args.place c.in-Answered.at c.in-Answered.id c.in-Answered.answer here part c.in_ok-part.ensures.entries rows table fact is since changed values left answers those
