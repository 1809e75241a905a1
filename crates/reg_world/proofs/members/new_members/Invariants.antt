use Rattle.std.proofs.Common.{◌≡◌}
use Rattle.reg_world.specs.Members.{listed}
use Rattle.reg_world.specs.WorldParts.{first_standing}
use Rattle.reg_world.proofs.members.new_members.Given as goal

abbrev pub invariant-loop-me : goal.invariant-loop-me
invariant-loop-me g l = l.members.items ≡ listed (first_standing l.shape) l.me
