use Rattle.std.proofs.Common.{◌∙◌, map, string_bytes, sym}
use Rattle.reg_cli.specs.Subcommands.{behind_name}
use Rattle.reg_show_cli.proofs.Shortly.{asked_short}
use Rattle.reg_show_cli.proofs.asking.short_asked.Goals as goal

pub returns : goal.returns
returns c = asked_short (behind_name c.args.words.now) (map string_bytes c.in_ok-flags.flags.now) c.short_said.result (sym c.line_of.ensures ∙ c.in_ok-flags.ensures.read) c.short_said.ensures
