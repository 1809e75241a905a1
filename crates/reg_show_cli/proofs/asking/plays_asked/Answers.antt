use Rattle.std.proofs.Common.{◌∙◌, map, string_bytes, sym}
use Rattle.reg_cli.specs.Subcommands.{behind_name}
use Rattle.reg_show_cli.proofs.Flagged.{outcomes_line}
use Rattle.reg_show_cli.proofs.asking.plays_asked.Goals as goal

pub returns : goal.returns
returns c = outcomes_line (behind_name c.args.words.now) (map string_bytes c.in_ok-flags.flags.now) c.plays_said.result (sym c.line_of.ensures ∙ c.in_ok-flags.ensures.read) c.plays_said.ensures
