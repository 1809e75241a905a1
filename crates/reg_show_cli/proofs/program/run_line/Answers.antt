use Rattle.reg_cli.specs.Subcommands.{behind_name}
use Rattle.reg_show_cli.proofs.Counted.{numbers_fit}
use Rattle.reg_show_cli.proofs.program.run_line.Goals as goal

pub obey-requires : goal.obey-requires
obey-requires g c = numbers_fit (behind_name c.args.words.now) c.in-Some.asked c.in-Some.ensures
