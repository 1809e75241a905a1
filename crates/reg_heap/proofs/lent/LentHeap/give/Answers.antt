use Rattle.std.proofs.Common.{sym, ◌∙◌}
use Rattle.reg_heap.proofs.Rounded.{one_size}
use Rattle.reg_heap.proofs.lent.LentHeap.give.Goals as goal

pub put-requires-clause-same : goal.put-requires-clause-same
put-requires-clause-same c =
    one_size c.args.size c.args.block.bytes c.class_of-class.result.bytes c.requires c.class_of-class.ensures.bytes ∙ sym c.sized-shelf.ensures
