use Rattle.reg_world.proofs.code.Reading.{IsReadSoFar}
use Rattle.reg_world.proofs.witnesses.push_reads.Given as goal

abbrev pub invariant-loop-index : goal.invariant-loop-index
invariant-loop-index g l = IsReadSoFar l.place l.reads l.initial.ids.items l.index l.ids.items
