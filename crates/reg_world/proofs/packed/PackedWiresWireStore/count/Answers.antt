use Rattle.reg_world.proofs.Packing.{count_is}
use Rattle.reg_world.proofs.packed.PackedWiresWireStore.count.Goals as goal

pub returns : goal.returns
returns g c = count_is c.self.inside.tables c.self.inside.strips c.args.self.now c.from.result c.args.to c.count.result c.self.view_is c.from.ensures c.count.ensures
