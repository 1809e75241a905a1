use Rattle.std.proofs.Common.{◌≡◌, ◌<◌, ◌∙◌, length, get_or, sym, subst, ap, arith}
use Rattle.std.specs.Prelude.{vec_len}
use Rattle.reg_frames.specs.declared.bodies.Body.TheVariants.{Ack}
use Rattle.reg_world.proofs.KeptBodies.{cast_at, there_at}
use Rattle.reg_world.proofs.bodies.Bodies.at.Goals as goal

pub index-requires-in-Cast : goal.index-requires-in-Cast
index-requires-in-Cast g c =
    let casts = c.self.inside.casts in
    let count : vec_len casts ≡ length casts.items = omega (arith, casts.ok.0) in
    let within = there_at c.self.inside.shorts.items casts.items c.args.number c.in-Cast.place c.index.result.now c.self.invariant (subst (λ l. c.args.number < length l) (sym c.self.view_is) c.requires) c.index.ensures c.in-Cast.is in
    omega (arith, within, count)

pub returns-in-Cast : goal.returns-in-Cast
returns-in-Cast g c =
    cast_at c.self.inside.shorts.items c.self.inside.casts.items c.args.number c.in-Cast.place c.index.result.now c.index-in-Cast.result.now (Ack 0) c.self.invariant (subst (λ l. c.args.number < length l) (sym c.self.view_is) c.requires) c.index.ensures c.in-Cast.is c.index-in-Cast.ensures
    ∙ ap (λ l. get_or l c.args.number (Ack 0)) c.self.view_is
