use Rattle.std.specs.Prelude.{vec_capacity}
use Rattle.reg_process.specs.Process.{unsettled}
use Rattle.reg_process.specs.Sending.{puts_of}
use Rattle.reg_process.proofs.Calls.{err_says}
use Rattle.reg_process.proofs.Listing.{call_memory}
use Rattle.reg_process.proofs.processes.Process.call.Goals as goal

pub returns-clause-memory : goal.returns-clause-memory
returns-clause-memory g c = λ said.
    let s = c.args.self.now.state in
    call_memory s c.args.op (g.F.FrontEnd.start c.args.op (unsettled s)) (vec_capacity c.list_for-list.result) (puts_of c.call_brief.new.brief.sends) c.in_ok-call_brief.ensures.called.outcome.put (err_says c.tell.result _ said c.tell.ensures.memory)
