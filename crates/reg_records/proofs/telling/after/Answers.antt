use Rattle.std.proofs.Common.{rules, refl, ◌<◌, length}
use Rattle.reg_checkers.proofs.Places.{within}
use Rattle.reg_records.proofs.telling.after.Goals as goal

pub returns-then-not-stands_at : goal.returns-then-not-stands_at
returns-then-not-stands_at c = search rules

pub overflow_add-result : goal.overflow_add-result
overflow_add-result c =
    let below : c.args.told.done < length c.args.receipts.now = within _ _ _ (c.if-not-stands_at.ensures.0 refl) in
    search rules

pub returns-else-not-stands_at : goal.returns-else-not-stands_at
returns-else-not-stands_at c = search rules
