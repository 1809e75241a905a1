use Rattle.std.proofs.Common.{ℕ, List, Option, Some, ap, slice_set, subst, sym}
use Rattle.reg_judge.specs.declared.rulings.seats.LastCall.{LastCall}
use Rattle.reg_judge.specs.Standing.{MayName}
use Rattle.reg_judge.proofs.Seating.{is_new}
use Rattle.reg_judge.proofs.rulings.seats.add_call.Goals as goal

pub returns-clause-call : goal.returns-clause-call
returns-clause-call g c =
    let id = c.name-id.result in
    let shape = c.args.history.now.shape in (
      id,
      subst (λ (place : ℕ). MayName c.args.naming c.args.row.now.process place) (sym c.name-id.ensures) c.in-Some.ensures,
      is_new shape.processes shape.registers c.args.history.now.entries c.args.row.now.at id c.args.op c.in_ok-push.ensures.in_place,
      c.in_ok-push.ensures.grown,
      ap (λ (held : List (Option LastCall)). slice_set held c.args.row.now.process (Some (record { id = id; key = c.args.row.now.key }))) c.note.ensures,
    )
