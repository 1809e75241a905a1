use Rattle.std.proofs.lemmas.Bool.{iff_false}
use Rattle.reg_node.proofs.Standings.{spelled_size}
use Rattle.reg_node.proofs.chapters.Told.read.Goals as goal

pub returns-then-not-may_be_state-clause-read : goal.returns-then-not-may_be_state-clause-read
returns-then-not-may_be_state-clause-read g c = λ s is. iff_false c.may_be_state.ensures c.if-not-may_be_state.true (spelled_size c.args.processes c.args.bytes.now s is)
