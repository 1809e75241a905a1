use Rattle.std.proofs.Common.{ap, ◌∙◌, arith}
use Rattle.reg_checkers.specs.Table.{Rows, cell}
use Rattle.reg_checkers.proofs.Tables.{none_more}
use Rattle.reg_checkers.proofs.table.empty_rows.Goals as goal

pub loop-p-init : goal.loop-p-init
loop-p-init g c =
    record { len = c.new-rows.ensures.len; none = λ id. ap (λ (rows : Rows _). cell rows id) c.new-rows.ensures.items }

pub loop-p-preserved : goal.loop-p-preserved
loop-p-preserved g c = record {
  len = omega (arith, c.in_ok-push.ensures.len, c.loop-p.invariant.len);
  none = λ id. ap (λ (rows : Rows _). cell rows id) c.in_ok-push.ensures.items ∙ none_more c.loop-p.rows.items c.new.result c.new.ensures.items c.loop-p.invariant.none id;
}

pub returns-clause-len : goal.returns-clause-len
returns-clause-len g c = omega (arith, c.loop-p.invariant.len, c.loop-p-test.false, c.loop-p.auto._p-end)

pub returns-clause-none : goal.returns-clause-none
returns-clause-none g c = c.loop-p.invariant.none
