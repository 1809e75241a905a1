use Rattle.tellwydar.proofs.FirstCalls.{first_ok}
use Rattle.tellwydar.proofs.beginning.call_first.Goals as goal

pub returns-clause-history : goal.returns-clause-history
returns-clause-history c = first_ok _ (c.args.world.now.accepted) c.args.process c.args.op c.step_reply.result c.args.world.now.history c.step_reply.new.self.history c.requires c.step_reply.ensures.history
