use Rattle.std.proofs.Common.{ℕ, List, inr, subst}
use Rattle.std.proofs.lemmas.Result.{err_from_is_err_and}
use Rattle.std.specs.Prelude.{string_bytes}
use Rattle.reg_commands.specs.declared.faults.Fault.TheVariants.{Output}
use Rattle.reg_inputs.specs.Schedules.{Plan, Spells}
use Rattle.reg_show.specs.Pages.{StopsTold}
use Rattle.reg_show.specs.declared.faults.ShowFault.TheVariants.{Command}
use Rattle.reg_web.specs.Tables.{start_in}
use Rattle.reg_web.specs.Under.{BlamesUnder}
use Rattle.reg_web.proofs.under.DataUnderTextCommand.answer.Goals as goal

-- the output fails only where the run is whole
pub returns-in_err-send_data-clause-why : goal.returns-in_err-send_data-clause-why
returns-in_err-send_data-clause-why g c =
    let p : Plan = c.in_ok-schedule.schedule in
    let spelled = subst (λ (text : List ℕ). Spells text p) c.as_str.ensures.value c.in_ok-schedule.ensures.read.0 in
    let stopped : BlamesUnder Command (StopsTold (start_in c.args.self.table)) (Command Output) (string_bytes c.args.text) =
    inr (p, c.in_ok-schedule.ensures.read.1, spelled, c.in_ok-told.ensures.1.accepted) in
    let told = err_from_is_err_and c.from_residual-in_err-send_data.result c.from_residual-in_err-send_data.ensures.1 in
    rw (told.1, told.2, c.in_err-send_data.ensures.0) stopped
