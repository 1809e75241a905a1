-- The steps of a record, process by process.
use Rattle.std.specs.Prelude.{ℕ, ◌≡◌, ◌<◌, ◌==◌, List, length, map, Some, slice_get}
use Rattle.std.specs.List.{filter}
use Rattle.reg_records.specs.declared.entries.LogEntry.{LogEntry}
use Rattle.reg_node.specs.declared.transcripts.recorded.Recorded.{Recorded}

-- the processes of the steps, in order
abbrev pub order_of : List Recorded → List ℕ
order_of steps = map (λ r. r.process) steps

-- the steps of one process, in order
abbrev pub log_of : ℕ → List Recorded → List LogEntry
log_of p steps = map (λ r. r.entry) (filter (λ r. r.process == p) steps)

-- the logs of the given number of processes
pub record AreLogs (processes : ℕ) (steps : List Recorded) (logs : List (List LogEntry)) : Type 0 where
  pub count : length logs ≡ processes
  pub each : (p : ℕ) → p < processes → slice_get logs p ≡ Some (log_of p steps)
