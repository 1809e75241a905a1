use Rattle.reg_text.proofs.Sent.{all_or_part}
use Rattle.reg_cli.specs.Faults.{words_line}
use Rattle.reg_cli.proofs.telling.tell.Goals as goal

pub returns-clause-told : goal.returns-clause-told
returns-clause-told g c =
    all_or_part (g.W.Write.contents c.args.errors.now) (g.W.Write.contents c.write_line.new.errors) (words_line c.args.refused.now c.args.fault) c.write_line.result c.write_line.ensures
