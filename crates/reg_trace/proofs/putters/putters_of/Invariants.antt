use Rattle.std.proofs.Common.{◌≡◌, drop}
use Rattle.std.specs.BTreeMap.{get}
use Rattle.std.specs.List.{position_from}
use Rattle.reg_trace.specs.declared.putters.WirePlace.{WirePlace}
use Rattle.reg_trace.specs.Putters.{puts_at, wire_place_cmp}
use Rattle.reg_trace.proofs.putters.putters_of.Given as goal

-- of the events from here on, the first that put each frame
abbrev pub invariant-loop-puts : goal.invariant-loop-puts
invariant-loop-puts g l =
    (q : WirePlace) → get wire_place_cmp l.putters q ≡ position_from (puts_at q) l.puts (drop l.puts l.moments)
