use Rattle.std.proofs.Common.{◌≡◌, ◌∙◌, ap, subst, List, length, false, arith}
use Rattle.std.proofs.lemmas.Result.{err_from_is_err_and}
use Rattle.reg_base.specs.Shape.{Extent}
use Rattle.reg_process.specs.declared.events.Event.{Event}
use Rattle.reg_world.specs.Pages.{Pages}
use Rattle.reg_world.specs.Worlds.{Made, RunRefuses, new_world}
use Rattle.reg_world.proofs.code.Ahead.{with_ahead, same_extent}
use Rattle.reg_world.proofs.running.World.run_owned.Goals as goal

pub run_ahead-requires-clause-world : goal.run_ahead-requires-clause-world
run_ahead-requires-clause-world g c =
    let going : c.world.inside.failed ≡ false = ap Made.failed c.world.view_is ∙ ap Made.failed c.in-Ok.ensures in
    with_ahead g.F.FrontEnd.start c.world.inside.failed c.world.inside.members.items c.world.inside.book c.put_ahead.new.self c.args.events.items c.world.invariant going c.put_ahead.ensures

pub returns-in_err-run_ahead-clause-world : goal.returns-in_err-run_ahead-clause-world
returns-in_err-run_ahead-clause-world g c =
    let is : c.in-Ok.world ≡ new_world c.args.shape = c.in-Ok.ensures in
    let shape : c.put_ahead.new.self.shape ≡ c.args.shape = ap (λ (b : Pages). b.shape) c.put_ahead.ensures ∙ same_extent c.world.inside.book.shape c.args.shape (ap Made.processes c.world.view_is ∙ ap Made.processes is) (ap Made.registers c.world.view_is ∙ ap Made.registers is) in
    let ahead : c.put_ahead.new.self.ahead ≡ c.args.events.items = ap (λ (b : Pages). b.ahead) c.put_ahead.ensures in
    let p = err_from_is_err_and c.from_residual.result c.from_residual.ensures.1 in
    rw (p.1, p.2) (subst (λ (s : Extent). RunRefuses g.F.FrontEnd.start s c.args.events.items c.in_err-run_ahead.field-0.0.at c.in_err-run_ahead.field-0.0.fault) shape
    (subst (λ (l : List Event). RunRefuses g.F.FrontEnd.start c.put_ahead.new.self.shape l c.in_err-run_ahead.field-0.0.at c.in_err-run_ahead.field-0.0.fault) ahead c.in_err-run_ahead.ensures.made))

pub run_ahead-requires-clause-count : goal.run_ahead-requires-clause-count
run_ahead-requires-clause-count g c = let ahead = ap (λ (b : Pages). length b.ahead) c.put_ahead.ensures in omega (arith, c.len-count.ensures, c.args.events.ok.0, ahead)
