use Rattle.std.proofs.Common.{◌∙◌, Some, None, map, string_bytes, drop, refl, sym, ap}
use Rattle.std.proofs.lemmas.Result.{err_from_is_err_and}
use Rattle.clap.specs.Words.{app_of, kind_of, subcommand_rows_of, takes}
use Rattle.reg_cli.specs.Subcommands.{seen}
use Rattle.reg_cli.proofs.Chosen.{no_fault, none_met, one_met, rows_found}
use Rattle.reg_cli.specs.Lines.{is_fair, name_of}
use Rattle.reg_cli.specs.Apps.{awreg}
use Rattle.reg_cli.proofs.Lines.{awreg_lines}
use Rattle.reg_cli.proofs.Choices.{picked, refused}
use Rattle.reg_cli.proofs.words.choose.Goals as goal

pub returns-in_err-matches : goal.returns-in_err-matches
returns-in_err-matches c =
    let words = map string_bytes c.args.words.now in
    let p = err_from_is_err_and c.from_residual-in_err-matches.result c.from_residual-in_err-matches.ensures.1 in
    rw (p.1, p.2) (refused words (kind_of c.in_err-matches.field-0.0)
    (λ t. c.in_err-matches.ensures.passes (ap (λ a. takes a words) c.in_ok-command_line.ensures ∙ t)))

pub returns-in-Some : goal.returns-in-Some
returns-in-Some c =
    let words = map string_bytes c.args.words.now in
    let command = app_of c.in_ok-command_line.field-0 in
    let matches = c.in_ok-matches.matches in
    let found = rows_found name_of is_fair awreg awreg_lines command words matches c.in_ok-command_line.ensures c.in_ok-matches.ensures.matches in
    let name = c.in-Some.name.now in
    let fair = c.in-Some.fair in
    let asked = one_met name_of is_fair awreg awreg_lines words (subcommand_rows_of matches) found (Some (name, fair)) c.in-Some.ensures.some name fair
    (no_fault name_of is_fair awreg awreg_lines command words c.in_ok-command_line.ensures c.in_ok-matches.ensures.kinds) (sym c.if-has_dashes.ensures)
    (λ h. ap seen (c.in-Some.ensures.none h)) refl in
    rw c.ok_or.ensures.value (picked (drop 1 words) name fair c.named.result asked c.named.ensures)

pub returns : goal.returns
returns c =
    let words = map string_bytes c.args.words.now in
    let matches = c.in_ok-matches.matches in
    let found = rows_found name_of is_fair awreg awreg_lines (app_of c.in_ok-command_line.field-0) words matches c.in_ok-command_line.ensures
    c.in_ok-matches.ensures.matches in
    none_met name_of is_fair awreg awreg_lines words (subcommand_rows_of matches) found None c.in-None.ensures.some refl
