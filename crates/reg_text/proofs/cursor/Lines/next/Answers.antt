use Rattle.std.proofs.Common.{◌≡◌, [], refl, ap, ◌∙◌, subst, rules}
use Rattle.reg_text.specs.Lines.{lines_of, shown, Rest, IsAsked}
use Rattle.reg_text.proofs.Split.{none_left}
use Rattle.reg_text.proofs.Counting.{none_shown}
use Rattle.reg_text.proofs.Asked.{met_kept, met_next, end_next, over, asked_met, asked_none}
use Rattle.reg_text.proofs.cursor.Lines.next.Goals.{then-self, else-self}
use Rattle.reg_text.proofs.cursor.Lines.next.Goals as goal

pub returns-in-None-clause-end : goal.returns-in-None-clause-end
returns-in-None-clause-end c =
    let none : c.as_slice-self-inside.result.now ≡ [] = search rules in
    let over = ap lines_of none ∙ none_left in
    (ap (shown c.self.inside.skips) over ∙ none_shown c.self.inside.skips, over)

pub returns-in-Some-clause-asked : goal.returns-in-Some-clause-asked
returns-in-Some-clause-asked c =
    let all = lines_of c.self.inside.rest.now in
    let behind = lines_of c.in-Some.after.now in
    let new : Rest = over c.self.inside.skips behind c.if-self.number in
    subst (λ (r : Rest). IsAsked r new) c.self.view_is (elim c.if-self.branch [
      | then-self w ↦
          let found = rw (← w.found-is, c.in-Some.is) at w.next_kept-found.ensures in
          asked_met c.self.inside.skips all c.self.inside.number c.in-Some.line.now behind c.if-self.number (rw w.if-self.true found.lines)
          (λ few. rw (w.if-self.true, w.number-is) (met_kept c.in-Some.line.now all behind c.self.inside.number w.next_kept-found.new.number (found.number few)))
      | else-self w ↦
          let found = rw (← w.found-is, c.in-Some.is) at w.cut_line-found.ensures.lines in
          asked_met c.self.inside.skips all c.self.inside.number c.in-Some.line.now behind c.if-self.number (rw w.if-self.false found)
          (λ few. rw w.if-self.false (met_next c.in-Some.line.now all behind c.self.inside.number c.if-self.number few found (w.number-is ∙ w.saturating_add-number.ensures)))
    ])

pub returns-in-None-clause-asked : goal.returns-in-None-clause-asked
returns-in-None-clause-asked c =
    let all = lines_of c.self.inside.rest.now in
    let new : Rest = over c.self.inside.skips (lines_of c.as_slice-self-inside.result.now) c.if-self.number in
    subst (λ (r : Rest). IsAsked r new) c.self.view_is (elim c.if-self.branch [
      | then-self w ↦
          let found = rw (← w.found-is, c.in-None.is) at w.next_kept-found.ensures in
          asked_none c.self.inside.skips all c.self.inside.number c.if-self.number new (rw w.if-self.true found.lines) refl (λ few. w.number-is ∙ found.number few)
      | else-self w ↦
          let found = rw (← w.found-is, c.in-None.is) at w.cut_line-found.ensures.lines in
          asked_none c.self.inside.skips all c.self.inside.number c.if-self.number new (rw w.if-self.false found) refl (λ few. end_next all c.self.inside.number c.if-self.number few found (w.number-is ∙ w.saturating_add-number.ensures))
    ])
