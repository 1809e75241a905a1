-- What the program prints of its own. It carries a proof: no promise speaks of it.
use Rattle.std.specs.Prelude.{ℕ, List}
use Rattle.reg_show_cli.specs.declared.program.OwnText.{OwnText}
use Rattle.reg_show_cli.specs.declared.program.OwnText.TheVariants.{Help, Version}
use Rattle.reg_show_cli.specs.declared.words.TheConstants.{VERSION}
use Rattle.reg_show_cli.specs.Topics.{help_text}

abbrev pub own_text : OwnText → List ℕ
own_text (Help topic) = help_text topic
own_text Version = VERSION.now
