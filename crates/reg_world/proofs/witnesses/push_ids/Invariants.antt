use Rattle.std.proofs.Common.{◌≡◌, ◌++◌, take}
use Rattle.reg_world.proofs.code.Reading.{ids_read}
use Rattle.reg_world.proofs.witnesses.push_ids.Given as goal

abbrev pub invariant-loop-operation : goal.invariant-loop-operation
invariant-loop-operation g l = l.ids.items ≡ l.initial.ids.items ++ ids_read (take l.operation-index l.ranked)
