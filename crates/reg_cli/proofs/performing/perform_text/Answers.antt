use Rattle.reg_cli.proofs.performing.perform_text.Goals as goal

pub returns-in_err-write_out-clause-part : goal.returns-in_err-write_out-clause-part
returns-in_err-write_out-clause-part g c = λ _.
    let shows = c.in_ok-report.ensures.shows in
    record { work = shows.0; holds = shows.1; report = c.in_ok-report.report; shown = shows.2; written = c.in_err-write_out.ensures.1 }
