use Rattle.clap.specs.Words.{found_of}
use Rattle.reg_cli.proofs.Getters.{seen_is}
use Rattle.reg_cli.proofs.subcommands.met.Goals as goal

pub returns-clause-some : goal.returns-clause-some
returns-clause-some c = seen_is c.args.matches.now (found_of c.in_ok-name.inner.now) c.in_ok-name.name.now c.get_flag.result c.in_ok-name.ensures.name
    c.in_ok-name.ensures.rows c.get_flag.ensures.none c.get_flag.ensures.value c.get_flag.ensures.other
