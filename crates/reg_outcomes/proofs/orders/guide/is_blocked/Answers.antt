use Rattle.std.proofs.Common.{ℕ, subst}
use Rattle.reg_checkers.specs.History.{IsFinished}
use Rattle.reg_checkers.specs.Progress.{op_of}
use Rattle.reg_outcomes.specs.Forced.{Comes}
use Rattle.reg_outcomes.proofs.orders.guide.is_blocked.Goals as goal

pub returns-then-is_owed : goal.returns-then-is_owed
returns-then-is_owed g c = λ t.
    let s = c.args.finder.now in
    let p = c.loop-process.process in
    record {
      process = p;
      finished = subst (λ (m : ℕ). IsFinished s.entries (op_of p m)) c.next_number-number.ensures (c.is_owed.ensures.finished c.if-is_owed.true);
      comes = subst (λ (m : ℕ). Comes s (op_of p m) c.args.id) c.next_number-number.ensures (c.is_owed.ensures.comes c.if-is_owed.true);
    }
