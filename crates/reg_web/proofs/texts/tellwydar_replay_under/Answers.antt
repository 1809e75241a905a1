use Rattle.std.proofs.Common.{rules, subst}
use Rattle.reg_commands.specs.Lent.{Fills}
use Rattle.reg_web.specs.Tables.{start_in}
use Rattle.reg_web.specs.Texts.{IsReplayedUnder}
use Rattle.reg_web.specs.declared.tables.Table.{Table}
use Rattle.reg_web.proofs.texts.tellwydar_replay_under.Goals as goal

pub returns : goal.returns
returns c =
    let Filled : Table → Type 0 = λ table. Fills (IsReplayedUnder (start_in table) c.args.text.now) c.tell_in.result c.args.output.now c.tell_in.new.output c.args.errors.now c.tell_in.new.errors c.tell_in.new.lengths in
    let made : Filled c.numbered-table.result = search rules in
    subst Filled c.numbered-table.ensures made
