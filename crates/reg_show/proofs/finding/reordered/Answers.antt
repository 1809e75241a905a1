use Rattle.std.proofs.Common.{option_map}
use Rattle.reg_show.proofs.Reordering.{never_refused}
use Rattle.reg_show.proofs.finding.reordered.Goals as goal

pub unreachable-requires : goal.unreachable-requires
unreachable-requires g c =
    never_refused c.args.report c.with_lists.ensures.report c.args.order.items (option_map (λ v. v.items) c.args.points) c.in-Err.field-0
    c.requires.order c.requires.points c.in-Err.ensures.lists
