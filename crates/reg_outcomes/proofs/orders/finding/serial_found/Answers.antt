use Rattle.std.proofs.Common.{ℕ, sym, subst}
use Rattle.std.proofs.lemmas.Result.{err_from_is_err_and}
use Rattle.reg_outcomes.specs.declared.orders.kinds.OrderKind.TheVariants.{Points, Serial}
use Rattle.reg_outcomes.specs.declared.orders.torn.Outlook.{Outlook}
use Rattle.reg_outcomes.specs.Finding.{IsFindFault}
use Rattle.reg_outcomes.specs.Guiding.{IsOutlook}
use Rattle.reg_outcomes.proofs.Pointing.{found_in, serial_fault, serially}
use Rattle.reg_outcomes.proofs.orders.finding.serial_found.Goals as goal

pub returns-in-Torn-clause-found : goal.returns-in-Torn-clause-found
returns-in-Torn-clause-found g c =
    let f = c.requires in
    rw (sym f.shape, sym f.entries) (subst (λ (o : Outlook g.row.A.Denot). IsOutlook c.args.finder.now o) c.in-Torn.is c.in_ok-outlook_of.ensures)

pub returns-in_err-ids-in-Open-clause-refused : goal.returns-in_err-ids-in-Open-clause-refused
returns-in_err-ids-in-Open-clause-refused g c =
    let h = c.args.history.now in
    let p = err_from_is_err_and c.from_residual-in_err-ids-in-Open.result c.from_residual-in_err-ids-in-Open.ensures.1 in
    rw (p.1, p.2) (serial_fault h.shape.processes h.shape.registers h.entries c.args.finder.now.limit c.in_err-ids-in-Open.field-0.0 (subst (λ (m : ℕ). IsFindFault Points h.shape.processes h.shape.registers h.entries m c.in_err-ids-in-Open.field-0.0) c.limit.ensures c.in_err-ids-in-Open.ensures.refused))

pub returns-in-None-clause-found : goal.returns-in-None-clause-found
returns-in-None-clause-found g c =
    let h = c.args.history.now in
    let f = c.requires in
    serially h.shape.registers h.entries c.ids_found.result (found_in c.args.finder.now Serial h.shape h.entries f.kind f.shape f.entries c.ids_found.result c.ids_found.ensures.found)
