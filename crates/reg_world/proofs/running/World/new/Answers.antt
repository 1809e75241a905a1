use Rattle.reg_world.proofs.code.Beginning.{new_is}
use Rattle.reg_world.proofs.running.World.new.Goals as goal

pub invariant_of-result : goal.invariant_of-result
invariant_of-result g c = new_is g.F.FrontEnd.start c.args.shape c.in_ok-members.members.items c.in_ok-book.book c.new_members.ensures.few c.in_ok-members.ensures.stand c.in_ok-book.ensures
