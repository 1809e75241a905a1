use Rattle.std.proofs.Common.{◌++◌, Option, subst}
use Rattle.reg_checkers.specs.declared.entries.Entry.TheVariants.{Answered}
use Rattle.reg_checkers.specs.History.{IsHistory}
use Rattle.reg_process.specs.declared.steps.Reply.{Reply}
use Rattle.reg_world.specs.World.{answers_in}
use Rattle.reg_world.proofs.code.Entering.{not_refused}
use Rattle.reg_world.proofs.adding.push_answer.Goals as goal

pub unreachable-requires : goal.unreachable-requires
unreachable-requires g c =
    let h = c.args.history.now in
    not_refused h (Answered c.args.at c.args.id c.in-Some.reply.answer) c.in-Err.field-0 c.requires.room
    (subst (λ (o : Option Reply). IsHistory h.shape.processes h.shape.registers (h.entries ++ answers_in c.args.at c.args.id o)) c.in-Some.is c.requires.in_place) c.in-Err.ensures.0
