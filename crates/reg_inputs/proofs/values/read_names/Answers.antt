use Rattle.std.proofs.Common.{Some, inl, inr, ap, ◌∙◌}
use Rattle.std.proofs.lemmas.Result.{err_from_is_err_and}
use Rattle.toml.specs.Data.{array}
use Rattle.toml.specs.View.{items_of}
use Rattle.reg_inputs.specs.declared.keys.Key.TheVariants as key
use Rattle.reg_inputs.specs.Judged.{registers_fault}
use Rattle.reg_inputs.proofs.Lists.{array_found}
use Rattle.reg_inputs.proofs.values.read_names.Goals as goal

pub returns-in_err-values : goal.returns-in_err-values
returns-in_err-values g c =
    let p = err_from_is_err_and c.from_residual.result c.from_residual.ensures.1 in
    rw (p.1, p.2) (inr (c.in_err-values.ensures registers_fault))

pub returns : goal.returns
returns g c =
    (c.in_ok-values.ensures ∙ ap (λ ds. Some (array (items_of ds))) c.in_ok-names.ensures.0, c.in_ok-names.ensures.1, array_found key.Registers registers_fault _ c.in_ok-values.values.now c.in_ok-values.ensures ∙ c.in_ok-names.ensures.2)

pub returns-in_err-names : goal.returns-in_err-names
returns-in_err-names g c =
    let p = err_from_is_err_and c.from_residual-in_err-names.result c.from_residual-in_err-names.ensures.1 in
    rw (p.1, p.2) (elim c.in_err-names.ensures [
      | inl memory ↦ inl memory
      | inr fault ↦ inr (array_found key.Registers registers_fault _ c.in_ok-values.values.now c.in_ok-values.ensures ∙ fault)
    ])
