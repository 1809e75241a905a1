use Rattle.std.proofs.Common.{refl, arith, is_some}
use Rattle.reg_checkers.specs.History.{MayCall}
use Rattle.reg_checkers.proofs.Histories.{behind_last}
use Rattle.reg_checkers.proofs.Placing.{next_is, no_truth, refuse, call_iff, not_back}
use Rattle.reg_checkers.proofs.place.may_call.Goals as goal

pub returns-then-id-progress : goal.returns-then-id-progress
returns-then-id-progress c =
    λ n registers op _ _. refuse (MayCall n registers c.args.entries.now c.args.at c.args.id op)
    (λ may. c.if-id-progress.true (next_is c.args.entries.now c.args.id c.args.progress c.requires.progress may.next))

pub returns-then-not-is_later : goal.returns-then-not-is_later
returns-then-not-is_later c =
    λ n registers op _ _. refuse (MayCall n registers c.args.entries.now c.args.at c.args.id op)
    (λ may. no_truth (c.if-not-is_later.ensures.1 (behind_last c.requires.history.0 c.requires.history.1 c.args.entries.now c.requires.history.2 c.args.at may.later)))

pub returns : goal.returns
returns c =
    call_iff c.requires.history.0 c.requires.history.1 c.args.entries.now c.requires.history.2 c.args.progress c.args.at c.args.id c.is_none.result c.requires.progress
    (omega arith) (c.if-not-is_later.ensures.0 refl) c.if-id-progress.false (omega arith) (not_back (is_some c.args.progress.running) c.is_none.result c.is_none.ensures)
