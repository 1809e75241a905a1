use Rattle.std.proofs.Common.{ℕ, ap, sym, ◌∙◌, map, arith}
use Rattle.std.proofs.lemmas.Result.{err_from_is_err_and}
use Rattle.reg_node.specs.RecordLines.{Account, account_lines}
use Rattle.reg_node.specs.LogFaults.{of_text}
use Rattle.reg_node.specs.LogTexts.{account_of, recorded_by}
use Rattle.reg_node.specs.declared.transcripts.logs.LogId.{LogId}
use Rattle.reg_node.proofs.Owned.{same_journal}
use Rattle.reg_node.proofs.transcripts.logs.read_lines.Goals as goal

pub returns-in_err-id-clause-whole : goal.returns-in_err-id-clause-whole
returns-in_err-id-clause-whole g c = λ j good e.
    let few = good.account.processes in
    let one = good.process in
    absurd (c.in_err-id.ensures.whole j.id (account_lines (account_of j)) good.cluster (omega (arith, few, one)) good.chapter good.begun e)

pub returns-in_err-record-clause-whole : goal.returns-in_err-record-clause-whole
returns-in_err-record-clause-whole g c = λ j good e.
    let few = good.account.processes in
    let one = good.process in
    let first = c.in_ok-id.ensures.whole j.id (account_lines (account_of j)) good.cluster (omega (arith, few, one)) good.chapter good.begun e in
    let memory = c.in_err-record.ensures.whole (account_of j) good.account first.1 in
    let p = err_from_is_err_and c.from_residual-in_err-record.result c.from_residual-in_err-record.ensures.1 in
    rw (p.1, p.2) (ap of_text memory)

pub returns-then-from-processes-clause-whole : goal.returns-then-from-processes-clause-whole
returns-then-from-processes-clause-whole g c = λ j good e.
    let few = good.account.processes in
    let one = good.process in
    let first = c.in_ok-id.ensures.whole j.id (account_lines (account_of j)) good.cluster (omega (arith, few, one)) good.chapter good.begun e in
    let second = c.in_ok-record.ensures.whole (account_of j) good.account first.1 in
    let same = c.record.view_is ∙ second in
    let id = ap (λ (i : LogId). i.process) first.0 in
    let shape = ap (λ (a : Account). a.shape.processes) same in
    absurd (omega (arith, one, id, shape, c.from.ensures, c.processes.ensures.value, c.if-from-processes.true))

pub returns-in_err-entries-clause-whole : goal.returns-in_err-entries-clause-whole
returns-in_err-entries-clause-whole g c = λ j good e.
    let few = good.account.processes in
    let one = good.process in
    let first = c.in_ok-id.ensures.whole j.id (account_lines (account_of j)) good.cluster (omega (arith, few, one)) good.chapter good.begun e in
    let second = c.in_ok-record.ensures.whole (account_of j) good.account first.1 in
    let same = c.record.view_is ∙ second in
    let steps = c.deref.ensures.value ∙ ap (λ (a : Account). a.steps) same ∙ ap (λ (p : ℕ). map (recorded_by p) j.entries) (sym (ap (λ (i : LogId). i.process) first.0)) in
    let memory = c.in_err-entries.ensures.whole j.entries steps in
    let p = err_from_is_err_and c.from_residual-in_err-entries.result c.from_residual-in_err-entries.ensures.1 in
    rw (p.1, p.2) memory

pub returns-clause-whole : goal.returns-clause-whole
returns-clause-whole g c = λ j good e.
    let few = good.account.processes in
    let one = good.process in
    let first = c.in_ok-id.ensures.whole j.id (account_lines (account_of j)) good.cluster (omega (arith, few, one)) good.chapter good.begun e in
    let second = c.in_ok-record.ensures.whole (account_of j) good.account first.1 in
    let same = c.record.view_is ∙ second in
    let steps = c.deref.ensures.value ∙ ap (λ (a : Account). a.steps) same ∙ ap (λ (p : ℕ). map (recorded_by p) j.entries) (sym (ap (λ (i : LogId). i.process) first.0)) in
    same_journal c.in_ok-id.id c.record.inside.front c.record.inside.shape c.record.inside.names c.in_ok-entries.entries.items j first.0 (ap (λ (a : Account). a.front) same) (ap (λ (a : Account). a.shape) same)
    (ap (λ (a : Account). a.names) same) (c.in_ok-entries.ensures.whole j.entries steps)
