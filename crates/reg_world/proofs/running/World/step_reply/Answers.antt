use Rattle.std.proofs.Common.{◌∙◌, Bool, refl, ap, sym, subst}
use Rattle.std.proofs.lemmas.Result.{err_from_is_err_and}
use Rattle.reg_world.specs.Worlds.{Made}
use Rattle.reg_world.specs.Pages.{Pages}
use Rattle.reg_world.specs.WorldParts.{IsWorld, found}
use Rattle.reg_world.proofs.code.Stepping.{refuses_is, move_found, none_is, accepts_is, grows_is, stopped_is}
use Rattle.reg_world.proofs.code.Stepping.{stopped_world}
use Rattle.reg_world.proofs.running.World.step_reply.Goals as goal

pub returns-in_err-moved-clause-made : goal.returns-in_err-moved-clause-made
returns-in_err-moved-clause-made g c =
    let p = err_from_is_err_and c.from_residual.result c.from_residual.ensures.1 in
    rw (p.1, p.2) (refuses_is g.F.FrontEnd.start c.self.inside.failed c.self.inside.book c.self.inside.members.items c.self.invariant c.if-self.false c.args.event.now c.args.self.now c.self.view_is c.in_err-moved.field-0.0
    (ap (λ l. found l c.self.inside.book c.args.event.now) (sym c.deref.ensures.value) ∙ (sym c.found.ensures ∙ c.in_err-moved.was)))

pub advance-requires-clause-moves : goal.advance-requires-clause-moves
advance-requires-clause-moves g c =
    move_found g.F.FrontEnd.start c.self.inside.failed c.self.inside.book c.self.inside.members.items c.self.invariant c.if-self.false c.args.event.now c.args.self.now c.self.view_is c.in_ok-moved.moved
    (ap (λ l. found l c.self.inside.book c.args.event.now) (sym c.deref.ensures.value) ∙ (sym c.found.ensures ∙ c.in_ok-moved.was))

pub invariant_of-self-in-Err : goal.invariant_of-self-in-Err
invariant_of-self-in-Err g c =
    stopped_world g.F.FrontEnd.start c.self.inside.failed c.self.inside.members.items c.advance.new.members.items c.self.inside.book c.advance.new.book c.self.invariant c.in-Err.ensures.made.0 c.in-Err.ensures.made.1

pub returns-in-Ok-clause-made : goal.returns-in-Ok-clause-made
returns-in-Ok-clause-made g c =
    accepts_is g.F.FrontEnd.start c.self.inside.failed c.self.inside.book c.self.inside.members.items c.self.invariant c.if-self.false c.args.event.now c.args.self.now c.self.view_is c.in_ok-moved.moved
    (ap (λ l. found l c.self.inside.book c.args.event.now) (sym c.deref.ensures.value) ∙ (sym c.found.ensures ∙ c.in_ok-moved.was)) c.in-Ok.reply c.advance.new.members.items c.advance.new.book c.in-Ok.ensures.made

pub returns-in-Ok-clause-history : goal.returns-in-Ok-clause-history
returns-in-Ok-clause-history g c =
    grows_is g.F.FrontEnd.start c.self.inside.failed c.self.inside.book c.self.inside.members.items c.self.invariant c.if-self.false c.args.event.now c.args.self.now c.self.view_is c.in-Ok.reply c.advance.new.members.items c.advance.new.book c.in-Ok.ensures.made

pub returns-in-Ok-clause-accepted : goal.returns-in-Ok-clause-accepted
returns-in-Ok-clause-accepted g c = ap Made.accepted (returns-in-Ok-clause-made g c).0.after

pub returns-in-Err-clause-made : goal.returns-in-Err-clause-made
returns-in-Err-clause-made g c = (
  none_is g.F.FrontEnd.start c.self.inside.failed c.self.inside.book c.self.inside.members.items c.self.invariant c.if-self.false c.args.event.now c.args.self.now c.self.view_is c.in_ok-moved.moved
      (ap (λ l. found l c.self.inside.book c.args.event.now) (sym c.deref.ensures.value) ∙ (sym c.found.ensures ∙ c.in_ok-moved.was)),
  stopped_is g.F.FrontEnd.start c.self.inside.failed c.self.inside.book c.self.inside.members.items c.self.invariant c.if-self.false c.args.event.now c.args.self.now c.self.view_is c.advance.new.book c.in-Err.ensures.made.0,
)

pub advance-requires-clause-world : goal.advance-requires-clause-world
advance-requires-clause-world g c = subst (λ (b : Bool). IsWorld g.F.FrontEnd.start b c.self.inside.members.items c.self.inside.book) c.if-self.false c.self.invariant

pub invariant_of-self : goal.invariant_of-self
invariant_of-self g c = subst (λ (b : Bool). IsWorld g.F.FrontEnd.start b c.advance.new.members.items c.advance.new.book) (sym c.if-self.false) c.in-Ok.ensures.made.world

pub returns-in-Err-clause-history : goal.returns-in-Err-clause-history
returns-in-Err-clause-history g c =
    ap (λ (b : Pages). b.entries) c.in-Err.ensures.made.0 ∙ ap Made.history c.self.view_is

pub returns-in-Err-clause-accepted : goal.returns-in-Err-clause-accepted
returns-in-Err-clause-accepted g c =
    ap (λ (b : Pages). b.accepted) c.in-Err.ensures.made.0 ∙ ap Made.accepted c.self.view_is

pub returns-in_err-moved-clause-history : goal.returns-in_err-moved-clause-history
returns-in_err-moved-clause-history g c =
    let p = err_from_is_err_and c.from_residual.result c.from_residual.ensures.1 in rw p.1 refl

pub returns-in_err-moved-clause-accepted : goal.returns-in_err-moved-clause-accepted
returns-in_err-moved-clause-accepted g c =
    let p = err_from_is_err_and c.from_residual.result c.from_residual.ensures.1 in rw p.1 refl
