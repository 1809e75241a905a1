use Rattle.std.proofs.Common.{◌++◌, subst}
use Rattle.reg_checkers.specs.declared.entries.Entry.TheVariants.{Called}
use Rattle.reg_checkers.specs.History.{IsHistory}
use Rattle.reg_process.specs.declared.steps.Step.{Step}
use Rattle.reg_world.specs.World.{calls_in}
use Rattle.reg_world.proofs.code.Entering.{not_refused}
use Rattle.reg_world.proofs.adding.push_call.Goals as goal

pub unreachable-requires : goal.unreachable-requires
unreachable-requires g c =
    let h = c.args.history.now in
    not_refused h (Called c.args.at c.args.id c.in-Call.op) c.in-Err.field-0 c.requires.room
    (subst (λ (s : Step). IsHistory h.shape.processes h.shape.registers (h.entries ++ calls_in c.args.at c.args.id s)) c.in-Call.is c.requires.in_place) c.in-Err.ensures.0
