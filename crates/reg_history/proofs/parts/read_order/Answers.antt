use Rattle.std.proofs.Common.{List, [], ◌∷◌, ◌++◌, codes, arith}
use Rattle.std.specs.Fmt.{decimal}
use Rattle.std.proofs.lemmas.Result.{IfOk-weaker}
use Rattle.reg_base.specs.declared.memory.OpId.{OpId}
use Rattle.reg_history.specs.declared.report_limits.TheConstants.{MOST_IDS}
use Rattle.reg_history.specs.IdLines.{id_text, IdFits}
use Rattle.reg_text.proofs.Numbered.{asked_on}
use Rattle.reg_history.specs.LineForms.{HasIdForm, IsBadLine}
use Rattle.reg_history.specs.ReadFaults.{read_fault}
use Rattle.reg_history.specs.Refusals.{IsNoCount, IsWrongCounted, IsWrongItem}
use Rattle.reg_history.specs.Stops.{IsFirst}
use Rattle.reg_history.proofs.Counted.{block_of, counted_of}
use Rattle.reg_history.proofs.Heads.{counted_first, counted_more}
use Rattle.reg_history.proofs.Stopping.{count_fails, failure_as, failure_passed_on, fails_as, fails_behind, not_failed}
use Rattle.reg_history.proofs.Stopping.{on_behind}
use Rattle.reg_history.proofs.parts.read_order.Goals as goal

pub returns-in_err-count-clause-whole : goal.returns-in_err-count-clause-whole
returns-in_err-count-clause-whole g c = λ ys rest b. absurd (c.in_err-count.ensures.whole _ _ b.few b.lines)

pub returns-clause-read : goal.returns-clause-read
returns-clause-read g c =
    IfOk-weaker c.read_block.result _ _
    (λ v block. counted_of (codes "order ") id_text (λ (_ : List OpId) (x : OpId). IdFits c.args.version x) MOST_IDS c.in_ok-count.count c.args.lines.now.left c.read_count.new.lines.left c.read_block.new.lines.left v.items c.in_ok-count.ensures.read.1 c.in_ok-count.ensures.read.0 block)
    c.read_block.ensures.read

pub returns-clause-whole : goal.returns-clause-whole
returns-clause-whole g c = λ ys rest b.
    c.read_block.ensures.whole ys rest (block_of (codes "order ") id_text (λ (_ : List OpId) (x : OpId). IdFits c.args.version x) MOST_IDS c.in_ok-count.count c.args.lines.now.left c.read_count.new.lines.left rest ys c.in_ok-count.ensures.whole b)

pub returns-in_err-count-clause-stopped : goal.returns-in_err-count-clause-stopped
returns-in_err-count-clause-stopped g c =
    let told = c.in_err-count.ensures in
    failure_passed_on c.from_residual.result _ _ c.from_residual.ensures.1
    (fails_as (IsWrongCounted (codes "order ") 0 MOST_IDS id_text (λ (_ : List OpId) (x : OpId). IdFits c.args.version x) (λ _. IsBadLine id_text (IdFits c.args.version) HasIdForm)) (IsFirst (IsNoCount (codes "order ") 0 MOST_IDS)) c.args.lines.now (read_fault c.in_err-count.field-0.0) (counted_first (codes "order ") 0 MOST_IDS id_text (λ (_ : List OpId) (x : OpId). IdFits c.args.version x) (λ _. IsBadLine id_text (IdFits c.args.version) HasIdForm))
    (count_fails (codes "order ") MOST_IDS c.args.lines.now c.read_count.new.lines c.in_err-count.field-0.0 told.fault.0 told.fault.1 told.asked told.end told.range told.form told.whole 0))

pub returns-clause-stopped : goal.returns-clause-stopped
returns-clause-stopped g c =
    let read = c.in_ok-count.ensures in
    failure_as c.read_block.result _ _
    (λ f failed. fails_behind (IsWrongCounted (codes "order ") 0 MOST_IDS id_text (λ (_ : List OpId) (x : OpId). IdFits c.args.version x) (λ _. IsBadLine id_text (IdFits c.args.version) HasIdForm)) (IsWrongItem id_text (λ (_ : List OpId) (x : OpId). IdFits c.args.version x) (λ _. IsBadLine id_text (IdFits c.args.version) HasIdForm) c.in_ok-count.count)
    ((codes "order " ++ decimal c.in_ok-count.count) ∷ []) c.args.lines.now c.read_count.new.lines f read.read.0 (asked_on c.args.lines.now c.read_count.new.lines _ c.read_count.new.lines.left read.asked read.read.0)
    (counted_more (codes "order ") 0 MOST_IDS id_text (λ (_ : List OpId) (x : OpId). IdFits c.args.version x) (λ _. IsBadLine id_text (IdFits c.args.version) HasIdForm) c.in_ok-count.count (omega arith) read.read.1) failed)
    c.read_block.ensures.stopped

pub returns-in_err-count-clause-on : goal.returns-in_err-count-clause-on
returns-in_err-count-clause-on g c = not_failed c.from_residual.result _ _ c.from_residual.ensures.1

pub returns-clause-on : goal.returns-clause-on
returns-clause-on g c =
    let read = c.in_ok-count.ensures in
    on_behind c.read_block.result c.args.lines.now c.read_count.new.lines c.read_block.new.lines (asked_on c.args.lines.now c.read_count.new.lines _ c.read_count.new.lines.left read.asked read.read.0) c.read_block.ensures.on
