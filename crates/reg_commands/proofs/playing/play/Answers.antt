use Rattle.reg_commands.proofs.Parts.{play_written, play_blamed, only_output}
use Rattle.reg_commands.proofs.playing.play.Goals as goal

pub returns-clause-ok : goal.returns-clause-ok
returns-clause-ok g c =
    let told = c.in_ok-report.ensures.ok in
    play_written c.args.fair (g.W.Write.contents c.args.writer.now) (g.W.Write.contents c.write_out.new.writer) c.args.text.now told.0 c.in_ok-report.report c.write_out.result told.1 told.2 c.write_out.ensures

pub returns-clause-why : goal.returns-clause-why
returns-clause-why g c =
    let told = c.in_ok-report.ensures.ok in
    play_blamed c.args.fair c.args.text.now told.0 _ _ c.write_out.result told.1 c.write_out.ensures

pub returns-clause-silent : goal.returns-clause-silent
returns-clause-silent g c = only_output _ _ _ c.write_out.result c.write_out.ensures
