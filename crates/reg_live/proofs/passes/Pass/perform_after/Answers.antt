use Rattle.std.proofs.Common.{rules, refl, ap}
use Rattle.reg_world.specs.World.{op_id}
use Rattle.reg_live.specs.Passes.{Held}
use Rattle.reg_live.proofs.passes.Pass.perform_after.Goals as goal

pub returns-clause-added : goal.returns-clause-added
returns-clause-added g c = search rules

pub returns-clause-own : goal.returns-clause-own
returns-clause-own g c = (refl, ap (λ (h : Held). op_id h.me h.called) c.self.view_is)

pub returns-clause-form : goal.returns-clause-form
returns-clause-form g c = search rules
