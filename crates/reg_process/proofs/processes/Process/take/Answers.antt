use Rattle.std.proofs.Common.{◌∙◌}
use Rattle.std.specs.Prelude.{vec_capacity}
use Rattle.reg_process.specs.Sending.{puts_of}
use Rattle.reg_process.proofs.Calls.{err_says}
use Rattle.reg_process.proofs.Listing.{take_memory, taken_within}
use Rattle.reg_process.proofs.processes.Process.take.Goals as goal

pub returns-clause-memory : goal.returns-clause-memory
returns-clause-memory g c = λ said.
    let old = c.args.self.now in
    let b = c.in_ok-take_brief.ensures.taken in
    take_memory old.state old.room (vec_capacity c.list_for-list.result) c.args.from c.args.frame.now (puts_of c.take_brief.new.brief.sends)
    (taken_within g.F.FrontEnd.start old c.args.from c.args.frame.now b.no_fault) b.outcome.put (λ numbered. c.list_for-list.ensures.room (c.is_numbered.ensures ∙ numbered) ∙ b.room) (err_says c.tell.result _ said c.tell.ensures.memory)
