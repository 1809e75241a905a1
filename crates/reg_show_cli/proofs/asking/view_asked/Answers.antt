use Rattle.reg_cli.specs.Subcommands.{behind_name}
use Rattle.reg_show_cli.proofs.Viewed.{all_views}
use Rattle.reg_show_cli.proofs.asking.view_asked.Goals as goal

pub returns-in-None : goal.returns-in-None
returns-in-None c =
    all_views (behind_name c.args.words.now) c.usual_asked.result c.in-None.ensures c.usual_asked.ensures
