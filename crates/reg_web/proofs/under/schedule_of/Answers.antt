use Rattle.std.proofs.Common.{◌≢◌, subst, sym}
use Rattle.reg_commands.specs.declared.faults.Fault.{Fault}
use Rattle.reg_commands.specs.declared.faults.Fault.TheVariants.{Output}
use Rattle.reg_web.specs.Under.{BlamesUnread}
use Rattle.reg_web.proofs.Reading.{read_blames, read_writes_nothing}
use Rattle.reg_web.proofs.under.schedule_of.Goals as goal

pub returns-in-Err-clause-why : goal.returns-in-Err-clause-why
returns-in-Err-clause-why g c =
    subst (λ (f : Fault). BlamesUnread f c.args.text.now) (sym c.read_fault.ensures) (read_blames c.in-Err.fault c.args.text.now c.in-Err.ensures.kind.0 c.in-Err.ensures.why)

pub returns-in-Err-clause-kind : goal.returns-in-Err-clause-kind
returns-in-Err-clause-kind g c = subst (λ (f : Fault). f ≢ Output) (sym c.read_fault.ensures) (read_writes_nothing c.in-Err.fault c.in-Err.ensures.kind.0)
