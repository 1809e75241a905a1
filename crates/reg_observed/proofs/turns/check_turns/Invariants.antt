use Rattle.std.proofs.Common.{◌≡◌, drop, length}
use Rattle.reg_observed.specs.Turns.{first_wrong, none_running}
use Rattle.reg_observed.proofs.turns.check_turns.Given as goal

abbrev pub invariant-loop-event : goal.invariant-loop-event
invariant-loop-event l = record {
  rest : first_wrong (none_running l.processes) l.events ≡ first_wrong l.running.items (drop l.event-index l.events);
  each : length l.running.items ≡ l.processes;
}
