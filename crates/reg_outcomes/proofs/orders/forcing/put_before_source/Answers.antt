use Rattle.reg_outcomes.proofs.Forced.{before_source}
use Rattle.reg_outcomes.proofs.orders.forcing.put_before_source.Goals as goal

pub join-requires-clause-comes : goal.join-requires-clause-comes
join-requires-clause-comes g c =
    let s = c.args.finder.now in
    let r = c.args.reader in
    before_source s c.requires.history r.id c.in-Some.source c.args.other r.value c.requires.reader.asker (c.in-Some.ensures s.entries c.requires.reader) (c.overwrites.ensures c.if-not-overwrites.false) (c.has.ensures s c.if-not-has.false c.requires.forced)
