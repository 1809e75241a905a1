use Rattle.std.proofs.Common.{slice_get, ap, sym, ◌∙◌}
use Rattle.reg_observed.proofs.Hearing.{processes_within}
use Rattle.reg_observed.proofs.judging.rows_in_turn.Goals as goal

pub check_turns-requires : goal.check_turns-requires
check_turns-requires c = λ k e at. processes_within c.args.heard.now.words _ c.requires.0 c.args.heard.now.events.items c.count-processes.ensures c.requires.1 k e (sym (ap (λ l. slice_get l k) c.deref.ensures.value) ∙ at)

pub rows_of-requires-clause-processes : goal.rows_of-requires-clause-processes
rows_of-requires-clause-processes c = λ k e at. processes_within c.args.heard.now.words _ c.requires.0 c.args.heard.now.events.items c.count-processes.ensures c.requires.1 k e (sym (ap (λ l. slice_get l k) c.deref-2.ensures.value) ∙ at)
