use Rattle.std.proofs.Common.{Err, ap, inr}
use Rattle.reg_text.proofs.Sent.{all_or_part}
use Rattle.reg_commands.proofs.shell.run_command.Goals as goal

pub returns-in-Err-clause-stopped : goal.returns-in-Err-clause-stopped
returns-in-Err-clause-stopped g c = λ _.
    let told = all_or_part (g.E.Write.contents c.args.errors.now) (g.E.Write.contents c.write_line.new.errors) (g.C.Fault.Refusal.line c.in-Err.fault) c.write_line.result c.write_line.ensures in
    inr (c.in-Err.fault, c.in-Err.ensures.kind, c.in-Err.ensures.why, c.in-Err.ensures.silent, λ same. c.in-Err.ensures.part (ap Err same), told)
