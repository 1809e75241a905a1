use Rattle.std.proofs.Common.{sym, subst}
use Rattle.reg_node.specs.Logged.{IsSpelled, LoggedState}
use Rattle.reg_node.proofs.Spelling.{spelled_by}
use Rattle.reg_node.proofs.logged.LoggedNode.step.Goals as goal

pub returns-clause-spelled : goal.returns-clause-spelled
returns-clause-spelled g c = λ first j past is.
    let fields = c.self.inside in
    let old : LoggedState = record { meeting = fields.meeting; process = fields.process; names = fields.names; crc = fields.crc; stopped = fields.stopped } in
    spelled_by g.F.FrontEnd.start first j past (λ v. v.items) old c.spell.new.self c.step-made.new.self c.args.step.now c.step-made.result c.spell.result c.if-self.false c.step-made.ensures.made c.spell.ensures
    (subst (λ (l : LoggedState). IsSpelled g.F.FrontEnd.start first j past l) (sym c.self.view_is) is)
