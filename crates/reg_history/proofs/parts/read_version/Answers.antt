use Rattle.std.proofs.Common.{refl, None, Some}
use Rattle.reg_text.proofs.Numbered.{asked_on}
use Rattle.reg_history.specs.Refusals.{IsNoVersion}
use Rattle.reg_history.specs.declared.report_faults.ReadWhy.TheVariants.{Form, End}
use Rattle.reg_history.proofs.Stopping.{stops_first}
use Rattle.reg_history.proofs.parts.read_version.Goals as goal

pub returns-in_default-clause-stopped : goal.returns-in_default-clause-stopped
returns-in_default-clause-stopped c = stops_first IsNoVersion c.args.lines.now c.next.new.self c.at_line.result End None c.at_line.ensures c.next.ensures.asked c.in_default.ensures.line refl

pub returns-in-Some-of_line-clause-on : goal.returns-in-Some-of_line-clause-on
returns-in-Some-of_line-clause-on c = asked_on c.args.lines.now c.next.new.self c.in-Some.line.now c.next.new.self.left c.next.ensures.asked c.in-Some.ensures.line

pub returns-in-None-clause-stopped : goal.returns-in-None-clause-stopped
returns-in-None-clause-stopped c =
    stops_first IsNoVersion c.args.lines.now c.next.new.self c.at_line-in-None.result Form (Some c.in-Some.line.now) c.at_line-in-None.ensures c.next.ensures.asked (c.next.new.self.left, c.in-Some.ensures.line)
    (λ version same. let none = c.in-None.ensures.whole version same in absurd (cc), refl)
