use Rattle.std.proofs.Common.{subst, ◌≤◌}
use Rattle.reg_judge.proofs.Needs.{kept_at_least, put_at_least}
use Rattle.reg_judge.proofs.calls.note_key.Goals as goal

pub returns-clause-noted : goal.returns-clause-noted
returns-clause-noted g c = put_at_least c.args.needs.now c.insert.new.self c.args.key c.args.count c.greater-later.result c.in_ok-insert.ensures.updates c.greater-later.ensures.second

pub returns-clause-kept : goal.returns-clause-kept
returns-clause-kept g c = kept_at_least c.args.needs.now c.insert.new.self c.args.key c.greater-later.result c.in_ok-insert.ensures.updates (subst (λ n. n ≤ c.greater-later.result) c.until.ensures c.greater-later.ensures.first)
