use Rattle.reg_outcomes.proofs.Forced.{source_first}
use Rattle.reg_outcomes.proofs.orders.forcing.put_source.Goals as goal

pub join-requires-clause-comes : goal.join-requires-clause-comes
join-requires-clause-comes g c =
    let s = c.args.finder.now in
    let r = c.args.reader in
    source_first s c.requires.history r.id c.in-Some.source r.value c.requires.reader.asker (c.in-Some.ensures s.entries c.requires.reader) c.if-reader-eq0.false
