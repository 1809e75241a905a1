use Rattle.std.proofs.Common.{take}
use Rattle.std.specs.BTreeMap.{get}
use Rattle.reg_base.specs.declared.memory.OpId.{OpId}
use Rattle.reg_outcomes.specs.Timing.{IsPlaceOf, id_cmp}
use Rattle.reg_outcomes.proofs.tables.timing.places.Given as goal

-- those of the operations so far
abbrev pub invariant-loop-place : goal.invariant-loop-place
invariant-loop-place g l = (id : OpId) → IsPlaceOf (take l.place l.order) id (get id_cmp l.places id)
