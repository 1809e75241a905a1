use Rattle.std.proofs.Common.{refl}
use Rattle.reg_process.specs.Sending.{puts_of}
use Rattle.reg_process.proofs.Calls.{accepted_goes, both_ok}
use Rattle.reg_process.proofs.parts.Core.accept.Goals as goal

pub returns-clause-goes : goal.returns-clause-goes
returns-clause-goes g c =
    let effect = c.finish.new.effect in
    both_ok c.finish.result (λ made done. accepted_goes c.args.self.now c.args.from c.args.body.now (puts_of c.accept_body.new.sends) (puts_of c.accept_body.new.sends) c.accept_body.new.self c.finish.new.self effect.cast effect.delivered.items effect.reply c.in_ok-accept_body.ensures.taken refl made done) c.finish.ensures.made c.finish.ensures.done
