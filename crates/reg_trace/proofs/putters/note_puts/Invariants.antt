use Rattle.std.proofs.Common.{◌≡◌, Some, take}
use Rattle.std.specs.Prelude.{cond, ◌==◌, ◌&&◌}
use Rattle.std.specs.BTreeMap.{get}
use Rattle.std.specs.List.{list_any}
use Rattle.reg_trace.specs.declared.putters.WirePlace.{WirePlace}
use Rattle.reg_trace.specs.Putters.{wire_place_cmp}
use Rattle.reg_trace.proofs.Putting.{is_for}
use Rattle.reg_trace.proofs.putters.note_puts.Given as goal

-- the frames so far are noted
abbrev pub invariant-loop-sent : goal.invariant-loop-sent
invariant-loop-sent g l = (q : WirePlace) → get wire_place_cmp l.putters q ≡ cond ((l.moment.process == q.from) && list_any (is_for q) (take l.sent-index l.moment.sent)) (Some l.puts) (get wire_place_cmp l.fn.putters q)
