use Rattle.std.proofs.Common.{rules, length, sym, ap, ◌∙◌}
use Rattle.std.specs.Prelude.{cond}
use Rattle.reg_process.specs.Process.{acknowledged}
use Rattle.reg_process.proofs.Calls.{nothing_put}
use Rattle.reg_process.proofs.parts.Core.take_got.Goals as goal

pub returns-clause-goes : goal.returns-clause-goes
returns-clause-goes g c = record {
  state = c.acknowledge.ensures.after ∙ ap (λ b. cond b (acknowledged c.args.self.now c.args.from c.args.count) c.args.self.now) c.if-not-acknowledge.false;
  outcome = record { put = c.say.ensures.put ∙ sym (nothing_put (length c.args.self.now.peers)); made = c.say.ensures.made; casts = c.say.ensures.casts; answer = c.say.ensures.answer };
}

pub returns-then-not-acknowledge-clause-fault : goal.returns-then-not-acknowledge-clause-fault
returns-then-not-acknowledge-clause-fault g c = search rules

pub returns-then-not-acknowledge-clause-ahead : goal.returns-then-not-acknowledge-clause-ahead
returns-then-not-acknowledge-clause-ahead g c = search rules
