-- How far the links of a station have come. They carry a proof: no promise speaks of them.
use Rattle.std.specs.Prelude.{ℕ, ◌+◌, ◌^◌, ◌-◌, ◌&&◌, min, max, List, [], ◌∷◌, length, Option, Some, None, slice_get}
use Rattle.std.specs.Prelude.{slice_index, slice_set, option_and_then, nat_lt, if◌then◌else◌}
use Rattle.reg_frames.specs.declared.bodies.Frame.{Frame}
use Rattle.reg_frames.specs.declared.bodies.Frame.TheVariants.{Numbered, Got}
use Rattle.reg_process.specs.declared.steps.Step.{Step}
use Rattle.reg_process.specs.declared.steps.Step.TheVariants.{Call, Take, Tick}
use Rattle.reg_frames.specs.declared.puts.Put.{Put}

-- how many bodies were queued on each link, and how many of them each process has acknowledged
pub record Reached : Type 0 where
  pub queued : ℕ
  pub counts : List ℕ

-- the number of the first body that a process hasn't acknowledged, where there is one
abbrev pub first_unacknowledged : Reached → ℕ → Option ℕ
first_unacknowledged r process =
    option_and_then (λ count. if nat_lt count r.queued then Some count else None) (slice_get r.counts process)

-- the counts after a process says how many bodies it has accepted: a count that isn't above the one before changes
-- nothing
abbrev pub raised : List ℕ → ℕ → ℕ → List ℕ
raised counts process count =
    if nat_lt process (length counts) && nat_lt (slice_index counts process) count then slice_set counts process
    count else counts

abbrev pub after_frame : List ℕ → ℕ → Frame → List ℕ
after_frame counts from (Got count) = raised counts from count
after_frame counts from (Numbered number body) = counts

-- what is known after a step: a count that is taken says how much its sender has accepted
abbrev pub with_step : Reached → Step → Reached
with_step r (Take from frame) = record r { counts = after_frame r.counts from frame }
with_step r (Call op) = r
with_step r Tick = r

-- how many bodies are queued, as a frame tells, where `known` were known to be
abbrev pub queued_by : ℕ → Frame → ℕ
queued_by known (Numbered number body) = max known (min (number + 1) (2 ^ 64 - 1))
queued_by known (Got count) = known

-- how many bodies are queued, as these frames tell one after another
abbrev pub queued_by_all : ℕ → List Put → ℕ
queued_by_all known [] = known
queued_by_all known (put ∷ puts) = queued_by_all (queued_by known put.frame) puts

-- what is known after the frames of a section: a number says that all bodies up to its own are queued
abbrev pub with_puts : Reached → List Put → Reached
with_puts r puts = record r { queued = queued_by_all r.queued puts }
