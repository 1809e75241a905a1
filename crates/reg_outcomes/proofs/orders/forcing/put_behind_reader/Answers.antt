use Rattle.std.proofs.Common.{◌≢◌}
use Rattle.reg_outcomes.proofs.Forced.{behind_reader}
use Rattle.reg_outcomes.proofs.Known.{other_id}
use Rattle.reg_outcomes.proofs.orders.forcing.put_behind_reader.Goals as goal

pub join-requires-clause-comes : goal.join-requires-clause-comes
join-requires-clause-comes g c =
    let s = c.args.finder.now in
    let r = c.args.reader in
    let apart : c.args.other ≢ r.id = other_id c.args.other r.id c.if-eq.ensures in
    behind_reader s c.requires.history r.id c.args.other r.value c.requires.reader.asker (c.overwrites.ensures c.if-not-overwrites.false) apart (c.is_behind_source.ensures s c.if-not-is_behind_source.false c.requires.reader c.requires.forced)

pub join-requires-clause-finished : goal.join-requires-clause-finished
join-requires-clause-finished g c = let a = c.requires.reader.asker in (a.3, a.2, a.5)
