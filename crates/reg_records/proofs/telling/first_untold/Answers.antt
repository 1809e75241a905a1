use Rattle.std.proofs.Common.{rules, ◌<◌, ℕ, List, length, sym, subst, arith}
use Rattle.reg_records.specs.declared.entries.Receipt.{Receipt}
use Rattle.reg_checkers.specs.History.{IsAt}
use Rattle.reg_checkers.proofs.Noting.{read_at}
use Rattle.reg_records.specs.Receipts.{AreFinished}
use Rattle.reg_records.proofs.Tellings.{lists_more, lists_all}
use Rattle.reg_records.proofs.telling.first_untold.Goals as goal

pub loop-process-preserved : goal.loop-process-preserved
loop-process-preserved g c =
    let lt : c.from.result < length c.args.receipts.now = let e = c.requires.few in let f = c.from.ensures in omega arith in
    let here : IsAt c.args.receipts.now c.from.result c.index-receipts-from.result = read_at c.args.receipts.now c.from.result c.index-receipts-from.result c.index-receipts-from.result (sym c.index-receipts-from.is) lt in
    let there : IsAt c.args.receipts.now c.loop-process.process c.index-receipts-from.result = subst (λ (k : ℕ). IsAt c.args.receipts.now k c.index-receipts-from.result) c.from.ensures here in
    let list : AreFinished c.args.entries.now c.loop-process.process c.deref.result.now = c.is_told.ensures.0 (search rules) in
    lists_more c.args.entries.now (λ v. v.items) c.args.receipts.now c.loop-process.process c.index-receipts-from.result there c.loop-process.invariant
    (subst (λ (l : List Receipt). AreFinished c.args.entries.now c.loop-process.process l) c.deref.ensures.value list)

pub returns : goal.returns
returns g c = lists_all c.args.entries.now (λ v. v.items) c.args.receipts.now c.loop-process.process (let e = c.requires.few in omega arith) c.loop-process.invariant
