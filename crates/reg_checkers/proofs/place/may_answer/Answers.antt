use Rattle.std.proofs.Common.{◌≡◌, suc, Some, refl, arith}
use Rattle.reg_base.specs.declared.memory.Op.{Op}
use Rattle.reg_checkers.specs.declared.entries.Entry.TheVariants.{Called}
use Rattle.reg_checkers.specs.History.{MayAnswer}
use Rattle.reg_checkers.specs.Progress.{IsBehindLast, last_of}
use Rattle.reg_checkers.proofs.Placing.{no_truth, refuse, not_last, not_fitting, answer_iff, or_true, or_false}
use Rattle.reg_checkers.proofs.place.may_answer.Goals as goal

pub returns-then-id-progress : goal.returns-then-id-progress
returns-then-id-progress c =
    refuse (MayAnswer c.args.entries.now c.args.at c.args.id c.args.answer)
    (not_last c.requires.history.0 c.requires.history.1 c.args.entries.now c.args.progress c.args.at c.args.id c.args.answer c.in-Some.running c.requires.progress c.in-Some.is (λ e. c.if-id-progress.true (omega (arith, e))))

pub returns-then-not-can_answer : goal.returns-then-not-can_answer
returns-then-not-can_answer c =
    let next : c.args.progress.next ≡ suc c.args.id.number = omega arith in
    refuse (MayAnswer c.args.entries.now c.args.at c.args.id c.args.answer)
    (not_fitting c.requires.history.0 c.requires.history.1 c.args.entries.now c.requires.history.2 c.args.progress c.args.at c.args.id c.args.answer c.in-Some.running c.requires.progress c.in-Some.is next
    (λ f. no_truth (c.if-not-can_answer.ensures.1 f)))

pub returns-then-is_later : goal.returns-then-is_later
returns-then-is_later c =
    let next : c.args.progress.next ≡ suc c.args.id.number = omega arith in
    answer_iff c.requires.history.0 c.requires.history.1 c.args.entries.now c.requires.history.2 c.args.progress c.args.at c.args.id c.args.answer c.in-Some.running c.is_later.result c.requires.progress c.in-Some.is next
    c.if-at-gt-LAST_EVENT.false (c.if-not-can_answer.ensures.0 refl) (or_true (IsBehindLast c.args.entries.now c.args.at) ((op : Op) × (last_of c.args.entries.now ≡ Some (Called c.args.at c.args.id op))) c.is_later.result c.if-is_later.true c.if-is_later.ensures)

pub returns-else-is_later : goal.returns-else-is_later
returns-else-is_later c =
    let next : c.args.progress.next ≡ suc c.args.id.number = omega arith in
    answer_iff c.requires.history.0 c.requires.history.1 c.args.entries.now c.requires.history.2 c.args.progress c.args.at c.args.id c.args.answer c.in-Some.running c.last_is_call.result c.requires.progress c.in-Some.is next
    c.if-at-gt-LAST_EVENT.false (c.if-not-can_answer.ensures.0 refl) (or_false (IsBehindLast c.args.entries.now c.args.at) ((op : Op) × (last_of c.args.entries.now ≡ Some (Called c.args.at c.args.id op))) c.last_is_call.result c.if-is_later.ensures c.last_is_call.ensures)
