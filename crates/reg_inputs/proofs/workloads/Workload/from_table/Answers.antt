use Rattle.std.proofs.Common.{inl, inr}
use Rattle.std.proofs.lemmas.Result.{err_from_is_err_and}
use Rattle.toml.specs.View.{table_view}
use Rattle.reg_inputs.proofs.Whole.{no_other_fault}
use Rattle.reg_inputs.proofs.workloads.Workload.from_table.Goals as goal

pub returns-in_err-work-clause-whole : goal.returns-in_err-work-clause-whole
returns-in_err-work-clause-whole g c =
    let p = err_from_is_err_and c.from_residual.result c.from_residual.ensures.1 in
    rw (p.1, p.2) (λ l says is. elim c.in_err-work.ensures.refused [
      | inl memory ↦ memory
      | inr fault ↦ absurd (no_other_fault (table_view c.args.table.now) l c.in_err-work.field-0.0 says is fault)
    ])
