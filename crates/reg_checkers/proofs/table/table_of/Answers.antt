use Rattle.std.proofs.Common.{◌∙◌, List, subst}
use Rattle.std.proofs.lemmas.List.{take_all}
use Rattle.reg_checkers.specs.declared.entries.Entry.{Entry}
use Rattle.reg_checkers.specs.Table.{IsTable}
use Rattle.reg_checkers.proofs.Tables.{table_of_none, none_marked}
use Rattle.reg_checkers.proofs.table.table_of.Goals as goal

pub loop-i-init : goal.loop-i-init
loop-i-init g c =
    let rows = c.in_ok-rows.rows.items in
    record {
      len = c.in_ok-rows.ensures.len ∙ c.processes.ensures.value;
      table = table_of_none rows c.in_ok-rows.ensures.none;
      unmarked = none_marked rows c.in_ok-rows.ensures.none;
    }

pub note-requires : goal.note-requires
note-requires g c = record {
  place = c.loop-i-test.true;
  history = c.requires;
  rows = c.loop-i.invariant.len;
  table = c.loop-i.invariant.table;
  unmarked = c.loop-i.invariant.unmarked;
}

pub loop-i-preserved : goal.loop-i-preserved
loop-i-preserved g c = record {
  len = c.in_ok-note.ensures.len ∙ c.loop-i.invariant.len;
  table = c.in_ok-note.ensures.table;
  unmarked = c.in_ok-note.ensures.unmarked;
}

pub returns-clause-table : goal.returns-clause-table
returns-clause-table g c =
    subst (λ (es : List Entry). IsTable es c.loop-i.rows.items) (take_all c.loop-i.i c.args.entries.now c.loop-i-test.false) c.loop-i.invariant.table

pub returns-clause-unmarked : goal.returns-clause-unmarked
returns-clause-unmarked g c = c.loop-i.invariant.unmarked
