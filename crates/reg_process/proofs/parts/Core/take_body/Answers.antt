use Rattle.std.proofs.Common.{◌∷◌, [], length, refl, subst, ◌∙◌}
use Rattle.std.specs.Prelude.{OnOk}
use Rattle.std.proofs.lemmas.Result.{on_ok_weaker}
use Rattle.reg_process.specs.Process.{State, Outcome}
use Rattle.reg_process.specs.Faults.{full_by}
use Rattle.reg_process.specs.Steps.{Goes}
use Rattle.reg_process.specs.Sending.{puts_of}
use Rattle.reg_frames.specs.declared.bodies.Frame.TheVariants.{Got}
use Rattle.reg_process.specs.Puts.{put_to}
use Rattle.reg_process.proofs.Calls.{drop_goes, next_taken, next_fault, next_memory, other_fault, stop_refused}
use Rattle.reg_process.proofs.parts.Core.take_body.Goals as goal

pub returns-then-number-expected-clause-goes : goal.returns-then-number-expected-clause-goes
returns-then-number-expected-clause-goes g c =
    drop_goes c.args.self.now c.args.from c.args.number c.expected-expected.result c.args.body (puts_of c.say.new.self.sends) c.say.new.self.effect.cast c.say.new.self.effect.delivered.items c.say.new.self.effect.reply c.expected-expected.ensures c.if-number-expected.true c.requires.peer
    c.say.ensures.put c.say.ensures.made c.say.ensures.casts c.say.ensures.answer

pub returns-then-number-expected-clause-room : goal.returns-then-number-expected-clause-room
returns-then-number-expected-clause-room g c = other_fault c.args.self.now c.args.from c.args.number c.expected-expected.result c.args.body c.expected-expected.ensures c.if-number-expected.true

pub returns-clause-goes : goal.returns-clause-goes
returns-clause-goes g c =
    subst (λ (x : State × Outcome). OnOk c.accept.result (Goes (length c.args.self.now.peers) x (puts_of c.accept.new.brief.sends) c.accept.new.brief.effect.cast c.accept.new.brief.effect.delivered.items c.accept.new.brief.effect.reply c.accept.new.self))
    (next_taken c.args.self.now c.args.from c.args.number c.expected-expected.result c.args.body c.expected-expected.ensures c.if-number-expected.false) c.accept.ensures.goes

pub returns-clause-room : goal.returns-clause-room
returns-clause-room g c = on_ok_weaker c.accept.result (λ room. next_fault c.args.self.now c.args.from c.args.number c.expected-expected.result c.args.body c.expected-expected.ensures c.if-number-expected.false c.in_default.ensures ∙ room) c.accept.ensures.room

pub returns-clause-fault : goal.returns-clause-fault
returns-clause-fault g c =
    stop_refused c.accept.result _ (full_by c.args.self.now c.args.body) c.args.self.now c.accept.new.self (next_fault c.args.self.now c.args.from c.args.number c.expected-expected.result c.args.body c.expected-expected.ensures c.if-number-expected.false c.in_default.ensures) c.accept.ensures.fault

pub returns-clause-memory : goal.returns-clause-memory
returns-clause-memory g c = λ said.
    next_memory c.args.self.now c.args.from c.args.number c.expected-expected.result c.args.body c.expected-expected.ensures 1 c.if-number-expected.false (c.accept.ensures.memory said)
