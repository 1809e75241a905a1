use Rattle.std.proofs.Common.{◌∙◌, map, string_bytes, sym}
use Rattle.reg_cli.specs.Subcommands.{behind_name}
use Rattle.reg_show_cli.proofs.Flagged.{no_outcome}
use Rattle.reg_show_cli.proofs.asking.outcome_asked.Goals as goal

pub returns-then-number-eq0 : goal.returns-then-number-eq0
returns-then-number-eq0 c = no_outcome (behind_name c.args.words.now) (map string_bytes c.in_ok-flags.flags.now) c.in_ok-number.number (sym c.line_of.ensures ∙ c.in_ok-flags.ensures.read) c.in_ok-number.ensures.1 c.if-number-eq0.true
