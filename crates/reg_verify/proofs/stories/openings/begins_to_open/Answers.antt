use Rattle.std.proofs.Common.{◌∙◌}
use Rattle.reg_verify.proofs.Opened.{both_begin, none_begins}
use Rattle.reg_verify.proofs.stories.openings.begins_to_open.Goals as goal

pub returns-then-are_of_opening : goal.returns-then-are_of_opening
returns-then-are_of_opening g c =
    both_begin c.args.writes.now c.args.report.now c.entries.result.now c.order.result.now c.are_in_turn.result (c.entries.ensures.value ∙ c.history.ensures.entries) c.order.ensures (c.are_of_opening.ensures.0 c.if-are_of_opening.true) c.are_in_turn.ensures

pub returns-else-are_of_opening : goal.returns-else-are_of_opening
returns-else-are_of_opening g c =
    none_begins c.args.writes.now c.args.report.now c.entries.result.now c.are_of_opening.result (c.entries.ensures.value ∙ c.history.ensures.entries) c.are_of_opening.ensures c.if-are_of_opening.false
