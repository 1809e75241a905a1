use Rattle.std.proofs.Common.{true, ap, subst, ◌∙◌}
use Rattle.reg_process.specs.declared.steps.Step.TheVariants.{Call}
use Rattle.reg_process.specs.Events.{Kept, Briefs, Refused}
use Rattle.reg_process.specs.Sending.{puts_of}
use Rattle.reg_process.proofs.Calls.{call_briefs, call_refused}
use Rattle.reg_process.proofs.processes.Process.call_brief.Goals as goal

pub returns-in-Ok-clause-called : goal.returns-in-Ok-clause-called
returns-in-Ok-clause-called g c =
    let b = c.begin.new.brief in
    subst (λ (k : Kept). Briefs g.F.FrontEnd.start k (Call c.args.op) (puts_of b.sends) b.effect.cast b.effect.delivered.items b.effect.reply (record { failed = c.self.inside.failed; state = c.begin.new.self; room = c.self.inside.spare })) c.self.view_is
    (call_briefs g.F.FrontEnd.start c.self.inside.failed c.self.inside.core c.self.inside.spare c.args.op c.start-start.result c.begin.new.self c.if-self.false c.in_default.ensures (c.start-start.ensures ∙ ap (g.F.FrontEnd.start c.args.op) c.unsettled.ensures) (puts_of b.sends) b.effect.cast b.effect.delivered.items b.effect.reply c.in-Ok.ensures.room c.in-Ok.ensures.goes)

pub returns-in-Err-clause-called : goal.returns-in-Err-clause-called
returns-in-Err-clause-called g c =
    subst (λ (k : Kept). Refused g.F.FrontEnd.start k (Call c.args.op) c.in-Err.fault (record { failed = true; state = c.begin.new.self; room = c.self.inside.spare })) c.self.view_is
    (call_refused g.F.FrontEnd.start c.self.inside.failed c.self.inside.core c.self.inside.spare c.args.op c.start-start.result c.begin.new.self c.if-self.false c.in_default.ensures (c.start-start.ensures ∙ ap (g.F.FrontEnd.start c.args.op) c.unsettled.ensures) c.in-Err.fault c.in-Err.ensures.fault)
