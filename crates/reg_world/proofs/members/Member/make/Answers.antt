use Rattle.std.proofs.Common.{ℕ, ◌<◌, [], length, get_or, sym, subst}
use Rattle.reg_process.specs.Sending.{puts_of}
use Rattle.reg_process.specs.Process.{resent}
use Rattle.reg_world.specs.Sent.{AreOn}
use Rattle.reg_world.specs.Members.{Standing, MayAct, Acts}
use Rattle.std.specs.Prelude.{OnOk}
use Rattle.reg_process.specs.declared.steps.Step.{Step}
use Rattle.reg_process.specs.declared.steps.Step.TheVariants.{Call, Take}
use Rattle.reg_world.proofs.code.Briefly.{brief_is, only_memory, frames_within, acted}
use Rattle.reg_world.proofs.members.Member.make.Goals as goal

pub allocated-requires : goal.allocated-requires
allocated-requires g c =
    let may = subst (λ (e : Step). MayAct g.F.FrontEnd.start c.args.self.now e) c.in-Call.is c.requires in
    only_memory g.F.FrontEnd.start c.self.inside.process (g.W.WireStore.wires c.self.inside.wires) c.args.self.now (Call c.in-Call.op) c.self.view_is may c.call_brief.result _ c.call_brief.new.self c.call_brief.ensures.called

pub put-requires : goal.put-requires
put-requires g c =
    let may = subst (λ (e : Step). MayAct g.F.FrontEnd.start c.args.self.now e) c.in-Call.is c.requires in
    let b = c.call_brief.new.brief in
    let made = brief_is c.call_brief.result tt _ _ c.in_ok-allocated-in-Call.ensures c.call_brief.ensures.called in
    frames_within g.F.FrontEnd.start c.self.inside.process (g.W.WireStore.wires c.self.inside.wires) c.args.self.now (Call c.in-Call.op) c.self.view_is may (puts_of b.sends) b.effect.cast b.effect.delivered.items b.effect.reply c.call_brief.new.self made

pub put-requires-in-Take : goal.put-requires-in-Take
put-requires-in-Take g c =
    let may = subst (λ (e : Step). MayAct g.F.FrontEnd.start c.args.self.now e) c.in-Take.is c.requires in
    let b = c.take_brief.new.brief in
    let made = brief_is c.take_brief.result tt _ _ c.in_ok-allocated-in-Take.ensures c.take_brief.ensures.taken in
    frames_within g.F.FrontEnd.start c.self-in-Take.inside.process (g.W.WireStore.wires c.self-in-Take.inside.wires) c.args.self.now (Take c.in-Take.from c.in-Take.frame) c.self-in-Take.view_is may (puts_of b.sends) b.effect.cast b.effect.delivered.items b.effect.reply c.take_brief.new.self made

pub returns-in_ok-allocated-in-Call : goal.returns-in_ok-allocated-in-Call
returns-in_ok-allocated-in-Call g c =
    let may = subst (λ (e : Step). MayAct g.F.FrontEnd.start c.args.self.now e) c.in-Call.is c.requires in
    let b = c.call_brief.new.brief in
    let made = brief_is c.call_brief.result tt _ _ c.in_ok-allocated-in-Call.ensures c.call_brief.ensures.called in
    subst (λ (e : Step). OnOk c.put.result (Acts g.F.FrontEnd.start c.args.self.now e b.effect.cast b.effect.delivered.items b.effect.reply c.put.new.self)) (sym c.in-Call.is)
    (acted g.F.FrontEnd.start c.self.inside.process (g.W.WireStore.wires c.self.inside.wires) c.args.self.now (Call c.in-Call.op) c.self.view_is may (puts_of b.sends) b.effect.cast b.effect.delivered.items b.effect.reply c.call_brief.new.self made
    c.put.result c.put.new.self c.put.ensures)

pub put_again-requires-clause-out : goal.put_again-requires-clause-out
put_again-requires-clause-out g c =
    subst (λ (s : Standing). (to : ℕ) → to < length s.state.peers → AreOn (get_or s.wires to []) (resent s.state to)) (sym c.self-in-Tick.view_is) c.requires.out
