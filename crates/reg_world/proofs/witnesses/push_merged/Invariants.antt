use Rattle.reg_world.specs.Witnesses.{is_kept}
use Rattle.reg_world.proofs.code.Reading.{IsMergedSoFar}
use Rattle.reg_world.proofs.witnesses.push_merged.Given as goal

abbrev pub invariant-loop-place : goal.invariant-loop-place
invariant-loop-place g l =
    IsMergedSoFar (is_kept l.callers) l.reads l.order l.initial.ids.items l.place l.next l.ids.items
