use Rattle.std.proofs.Common.{inl}
use Rattle.reg_show_cli.proofs.Telling.{tells_of}
use Rattle.reg_show_cli.proofs.program.run_words.Goals as goal

pub returns-clause-stopped : goal.returns-clause-stopped
returns-clause-stopped g c one =
    let (asked, line, stops) = c.run_line.ensures.stopped one in
    inl (asked, line, tells_of asked _ _ _ _ _ _ _ stops)
