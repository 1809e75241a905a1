use Rattle.std.proofs.Common.{◌≡◌, ◌++◌, ◌∷◌, [], ◌∙◌, length, ap, sym, arith}
use Rattle.std.specs.Prelude.{vec_len}
use Rattle.reg_process.proofs.Again.{on_err}
use Rattle.reg_world.specs.Bodies.{bodies_of, cast_of}
use Rattle.reg_world.proofs.KeptBodies.{kept_bodies, kept_there, pushed_bodies, pushed_there}
use Rattle.reg_world.proofs.bodies.Bodies.push.Goals as goal

pub invariant_of-self-in-Continue-branch-3 : goal.invariant_of-self-in-Continue-branch-3
invariant_of-self-in-Continue-branch-3 g c =
    let count : vec_len c.self.inside.casts ≡ length c.self.inside.casts.items = omega (arith, c.self.inside.casts.ok.0) in
    pushed_there c.self.inside.shorts.items c.push-in-Cast-2.new.self.items c.self.inside.casts.items c.push-in-Cast.new.self.items (record { time = c.in-Cast.time; op = c.in-Cast.op }) c.len-place.result
    c.self.invariant (c.len-place.ensures ∙ count) c.in_ok-push-in-Cast.ensures.items c.in_ok-push-in-Cast-2.ensures.items

pub invariant_of-self-in_err-push-in-Cast-2 : goal.invariant_of-self-in_err-push-in-Cast-2
invariant_of-self-in_err-push-in-Cast-2 g c =
    kept_there c.self.inside.shorts.items c.push-in-Cast-2.new.self.items c.self.inside.casts.items c.push-in-Cast.new.self.items (record { time = c.in-Cast.time; op = c.in-Cast.op })
    c.self.invariant c.in_ok-push-in-Cast.ensures.items c.in_err-push-in-Cast-2.ensures.items

pub returns-in_err-push-in-Cast-2-clause-kept : goal.returns-in_err-push-in-Cast-2-clause-kept
returns-in_err-push-in-Cast-2-clause-kept g c =
    on_err c.from_residual-in_err-push-in-Cast-2.result (bodies_of c.push-in-Cast-2.new.self.items c.push-in-Cast.new.self.items ≡ c.args.self.now)
    (kept_bodies c.self.inside.shorts.items c.push-in-Cast-2.new.self.items c.self.inside.casts.items c.push-in-Cast.new.self.items (record { time = c.in-Cast.time; op = c.in-Cast.op })
    c.self.invariant c.in_ok-push-in-Cast.ensures.items c.in_err-push-in-Cast-2.ensures.items
    ∙ c.self.view_is)

pub returns-in_ok-push-in-Cast-2-clause-added : goal.returns-in_ok-push-in-Cast-2-clause-added
returns-in_ok-push-in-Cast-2-clause-added g c =
    let count : vec_len c.self.inside.casts ≡ length c.self.inside.casts.items = omega (arith, c.self.inside.casts.ok.0) in
    pushed_bodies c.self.inside.shorts.items c.push-in-Cast-2.new.self.items c.self.inside.casts.items c.push-in-Cast.new.self.items (record { time = c.in-Cast.time; op = c.in-Cast.op }) c.len-place.result
    c.self.invariant (c.len-place.ensures ∙ count) c.in_ok-push-in-Cast.ensures.items c.in_ok-push-in-Cast-2.ensures.items
    ∙ (ap (λ l. l ++ cast_of (record { time = c.in-Cast.time; op = c.in-Cast.op }) ∷ []) c.self.view_is
    ∙ ap (λ b. c.args.self.now ++ b ∷ []) (sym c.in-Cast.is))
