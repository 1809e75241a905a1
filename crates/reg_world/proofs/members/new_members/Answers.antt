use Rattle.std.proofs.Common.{◌≡◌, ap, ◌∙◌, refl, add-one, arith}
use Rattle.reg_world.specs.Members.{listed}
use Rattle.reg_world.specs.WorldParts.{first_standing}
use Rattle.reg_world.proofs.lists.Pushed.{one_more}
use Rattle.reg_world.proofs.members.new_members.Goals as goal

pub loop-me-preserved : goal.loop-me-preserved
loop-me-preserved g c =
    let f = first_standing c.args.shape in
    one_more (listed f) c.loop-me.me (f c.loop-me.me) _ c.loop-me.members.items c.push.new.self.items (rw add-one refl) c.loop-me.invariant c.in_ok-new.ensures c.in_ok-push.ensures.items

pub returns-clause-stand : goal.returns-clause-stand
returns-clause-stand g c =
    let all : c.loop-me.me ≡ c.args.shape.processes = omega arith in
    c.loop-me.invariant ∙ ap (listed (first_standing c.args.shape)) all
