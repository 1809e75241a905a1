use Rattle.reg_show_cli.proofs.program.obey.Goals as goal

pub returns-in-Outcomes-clause-stopped : goal.returns-in-Outcomes-clause-stopped
returns-in-Outcomes-clause-stopped g c = rw c.in-Outcomes.is c.run_command-in-Outcomes.ensures.stopped
