use Rattle.std.proofs.Common.{◌≡◌, ◌++◌, map, take}
use Rattle.std.specs.List.{filter}
use Rattle.reg_world.specs.Witnesses.{is_lost, ranked_note}
use Rattle.reg_world.proofs.witnesses.add_lost.Given as goal

abbrev pub invariant-loop-note : goal.invariant-loop-note
invariant-loop-note g l = l.lost.items ≡ l.initial.lost.items ++ map (ranked_note l.process) (filter (is_lost l.last l.process l.caller) (take l.note-index l.caller.casts))
