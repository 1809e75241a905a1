use Rattle.std.proofs.Common.{◌≡◌, ℕ, ◌+◌, ◌<◌, List, ◌++◌, Option, None, length, get_or, take, ap, sym, ◌∙◌}
use Rattle.std.proofs.Common.{append_assoc, append-nil, arith}
use Rattle.std.specs.Prelude.{Vec}
use Rattle.std.proofs.lemmas.List.{take_all, take_more}
use Rattle.reg_base.specs.declared.memory.Op.{Op}
use Rattle.reg_checkers.specs.declared.entries.Entry.{Entry}
use Rattle.reg_outcomes.specs.declared.told.ToldAnswer.{ToldAnswer}
use Rattle.reg_outcomes.specs.Told.{called_last, told_at, told_of}
use Rattle.reg_outcomes.proofs.TellingHistory.{last_in, last_push, told_push}
use Rattle.reg_outcomes.proofs.told.tell_process.Goals.{in-Some+in_ok-push, in_default}
use Rattle.reg_outcomes.proofs.told.tell_process.Goals as goal

-- what one more entry told
one_more : (p : ℕ) (h : List Entry) (k : ℕ) (e : Entry) (start old now : List ToldAnswer) (last : Option Op)
    → k < length h → old ≡ start ++ told_of p (take k h) → last ≡ last_in p None (take k h)
    → now ≡ old ++ told_at p last (get_or h k e) → now ≡ start ++ told_of p (take (k + 1) h)
one_more p h k e start old now last inside before called is =
    let x = get_or h k e in
    let joined = ap (told_of p) (take_more h k e inside) ∙ told_push p None (take k h) x in
    is ∙ ap (λ l. old ++ told_at p l x) called ∙ ap (λ (l : List ToldAnswer). l ++ told_at p (last_in p None (take k h)) x) before
    ∙ append_assoc start (told_of p (take k h)) (told_at p (last_in p None (take k h)) x) ∙ ap (λ (l : List ToldAnswer). start ++ l) (sym joined)

-- and the operation called last in it and those before it
last_more : (p : ℕ) (h : List Entry) (k : ℕ) (e : Entry) (last now : Option Op) → k < length h
    → last ≡ last_in p None (take k h) → now ≡ called_last p last (get_or h k e) → now ≡ last_in p None (take (k + 1) h)
last_more p h k e last now inside before is =
    let x = get_or h k e in
    is ∙ ap (λ l. called_last p l x) before ∙ sym (ap (last_in p None) (take_more h k e inside) ∙ last_push p None (take k h) x)

pub loop-entry-preserved : goal.loop-entry-preserved
loop-entry-preserved g c =
    let old = c.loop-entry.outcome.items in
    let p = c.args.process in
    let h = c.args.entries.now in
    let k = c.loop-entry.entry-index in
    let inside = c.loop-entry-test.true in (
      elim c.match-told_at.branch [
        | in-Some+in_ok-push w ↦
            one_more p h k _ c.args.outcome.now.items old c.match-told_at.outcome.items c.loop-entry.last inside c.loop-entry.invariant.0 c.loop-entry.invariant.1
            (ap (λ (v : Vec ToldAnswer g.row.A.Denot). v.items) w.outcome-is ∙ w.in_ok-push.ensures.items ∙ ap (λ (l : List ToldAnswer). old ++ l) (sym w.in-Some.ensures))
        | in_default w ↦
            one_more p h k _ c.args.outcome.now.items old c.match-told_at.outcome.items c.loop-entry.last inside c.loop-entry.invariant.0 c.loop-entry.invariant.1
            (ap (λ (v : Vec ToldAnswer g.row.A.Denot). v.items) w.outcome-is ∙ sym (append-nil old) ∙ ap (λ (l : List ToldAnswer). old ++ l) (sym w.in_default.ensures))
      ],
      last_more p h k _ c.loop-entry.last c.called_last-last.result inside c.loop-entry.invariant.1 c.called_last-last.ensures,
    )

pub returns : goal.returns
returns g c =
    let end = c.loop-entry-test.false in
    c.loop-entry.invariant.0 ∙ ap (λ (h : List Entry). c.args.outcome.now.items ++ told_of c.args.process h) (take_all c.loop-entry.entry-index c.args.entries.now (omega (arith, end)))
