use Rattle.reg_commands.proofs.WithinReport.{never_refused}
use Rattle.reg_commands.proofs.reporting.report.Goals as goal

pub unreachable-requires : goal.unreachable-requires
unreachable-requires g c =
    let title = c.requires.title in
    never_refused title.0 _ c.in-Err.field-0 c.requires.few title.1 c.requires.names c.in_place.ensures c.requires.order c.requires.points c.in-Err.ensures
