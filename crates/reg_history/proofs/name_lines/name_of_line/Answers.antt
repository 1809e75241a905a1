use Rattle.std.proofs.Common.{rules}
use Rattle.reg_text.proofs.Texts.{name_text}
use Rattle.reg_history.proofs.name_lines.name_of_line.Goals as goal

pub returns-in-None : goal.returns-in-None
returns-in-None g c = λ good.
    let bad = (rw c.in-None.is at c.in_ok-name.ensures) in
    absurd (bad (name_text c.args.line.now good))

pub returns-then-is_spelt : goal.returns-then-is_spelt
returns-then-is_spelt g c = search rules

pub returns-else-is_spelt : goal.returns-else-is_spelt
returns-else-is_spelt g c = search rules
