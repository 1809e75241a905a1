use Rattle.std.proofs.Common.{rules, sym, subst, ◌∙◌}
use Rattle.reg_process.specs.declared.steps.Step.TheVariants.{Take}
use Rattle.reg_process.specs.Events.{Kept, Briefs}
use Rattle.reg_process.specs.Sending.{puts_of}
use Rattle.reg_process.proofs.Calls.{take_briefs}
use Rattle.reg_process.proofs.processes.Process.take_brief.Goals as goal

pub returns-in-Ok-clause-taken : goal.returns-in-Ok-clause-taken
returns-in-Ok-clause-taken g c =
    let b = c.take_frame.new.brief in
    subst (λ (k : Kept). Briefs g.F.FrontEnd.start k (Take c.args.from c.args.frame.now) (puts_of b.sends) b.effect.cast b.effect.delivered.items b.effect.reply (record { failed = c.self.inside.failed; state = c.take_frame.new.self; room = c.self.inside.spare })) c.self.view_is
    (take_briefs g.F.FrontEnd.start c.self.inside.failed c.self.inside.core c.self.inside.spare c.args.from c.args.frame.now c.if-self.false (sym c.is_peer.ensures ∙ c.if-not-is_peer.false) c.take_frame.new.self (puts_of b.sends) b.effect.cast b.effect.delivered.items b.effect.reply c.in-Ok.ensures.room c.in-Ok.ensures.goes)

pub returns-in-Err-clause-taken : goal.returns-in-Err-clause-taken
returns-in-Err-clause-taken g c = search rules
