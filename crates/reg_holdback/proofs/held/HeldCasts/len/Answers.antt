use Rattle.std.proofs.Common.{length, ap, arith}
use Rattle.std.specs.BinaryHeap.{heap_items}
use Rattle.reg_holdback.proofs.Heaped.{as_many}
use Rattle.reg_holdback.proofs.held.HeldCasts.len.Goals as goal

pub returns : goal.returns
returns g c =
    let many = as_many (heap_items c.self.inside.heap) in
    let view = ap length c.self.view_is in
    omega (arith, many, view, c.len.ensures)
