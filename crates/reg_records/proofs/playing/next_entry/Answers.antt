use Rattle.std.proofs.Common.{map, refl}
use Rattle.reg_checkers.proofs.Noting.{read_at}
use Rattle.reg_records.proofs.Turns.{stands_is}
use Rattle.reg_records.proofs.playing.next_entry.Goals as goal

pub returns : goal.returns
returns g c = (
  read_at c.args.order.now c.args.place 0 _ refl c.requires.within,
  stands_is (map (λ v. v.items) c.args.logs.now) c.args.order.now c.args.counts.now c.args.place c.from-process.result _ c.in_ok-entry.entry c.from-process.ensures c.if-process-counts.false c.requires.tallied c.in_ok-entry.ensures,
)
