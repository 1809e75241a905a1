use Rattle.std.proofs.Common.{sym, ◌∙◌}
use Rattle.std.proofs.lemmas.Result.{err_from_is_err_and}
use Rattle.reg_inputs.specs.declared.keys.Key.TheVariants as key
use Rattle.reg_inputs.specs.Judged.{scripts_fault}
use Rattle.reg_inputs.proofs.Lists.{array_found, no_scripts, some_scripts}
use Rattle.reg_inputs.proofs.values.read_scripts.Goals as goal

pub returns-in_err-scripts-clause-fault : goal.returns-in_err-scripts-clause-fault
returns-in_err-scripts-clause-fault c =
    let p = err_from_is_err_and c.from_residual.result c.from_residual.ensures.1 in
    rw (p.1, p.2) (c.in_err-scripts.ensures scripts_fault)

pub returns-then-not-are_scripts-clause-fault : goal.returns-then-not-are_scripts-clause-fault
returns-then-not-are_scripts-clause-fault c =
    array_found key.Scripts scripts_fault _ c.in_ok-scripts.scripts.now c.in_ok-scripts.ensures ∙ no_scripts c.in_ok-scripts.scripts.now (sym c.if-not-are_scripts.ensures)

pub returns-then-not-are_few-clause-fault : goal.returns-then-not-are_few-clause-fault
returns-then-not-are_few-clause-fault c =
    array_found key.Scripts scripts_fault _ c.in_ok-scripts.scripts.now c.in_ok-scripts.ensures ∙ some_scripts c.in_ok-scripts.scripts.now _ (sym c.if-not-are_scripts.ensures) c.if-not-are_few.ensures.value

pub returns-clause-fault : goal.returns-clause-fault
returns-clause-fault c =
    (c.in_ok-scripts.ensures, array_found key.Scripts scripts_fault _ c.in_ok-scripts.scripts.now c.in_ok-scripts.ensures ∙ some_scripts c.in_ok-scripts.scripts.now _ (sym c.if-not-are_scripts.ensures) c.if-not-are_few.ensures.value)
