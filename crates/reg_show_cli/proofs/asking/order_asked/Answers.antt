use Rattle.std.proofs.lemmas.Bool.{false≢true}
use Rattle.reg_cli.specs.Subcommands.{behind_name}
use Rattle.reg_show_cli.proofs.Counted.{no_order}
use Rattle.reg_show_cli.proofs.asking.order_asked.Goals as goal

pub returns : goal.returns
returns c = no_order (behind_name c.args.words.now) (λ h. false≢true (c.if-are_two.ensures.1 h)) (λ h. false≢true (c.if-are_two-2.ensures.1 h))
