-- The program as clap reads it. It carries a proof: no promise speaks of it.
use Rattle.std.specs.Prelude.{codes}
use Rattle.clap.specs.Words.{App, new_app, with_subcommand}
use Rattle.reg_cli.specs.Subcommands.{fair_app}

-- the program with its subcommands, as clap's parse reads it
abbrev pub awreg : App
awreg = with_subcommand (with_subcommand (with_subcommand (with_subcommand (new_app (codes "awreg"))
    (new_app (codes "replay")).top) (new_app (codes "check")).top) (new_app (codes "live")).top)
    (fair_app (codes "play")).top
