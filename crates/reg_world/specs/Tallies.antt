-- Tallies of the operations of processes. They carry a proof: no promise speaks of them.
use Rattle.std.specs.Prelude.{ℕ, ◌-◌, Bool, false, nat_lt, if◌then◌else◌, List, [], slice_index_or}
use Rattle.reg_base.specs.declared.memory.OpId.{OpId}
use Rattle.reg_world.specs.declared.callers.Note.{Note}

-- how many operations a process called, whether the last of them runs, and the casts that it made
pub record Tally : Type 0 where
  pub calls : ℕ
  pub runs : Bool
  pub casts : List Note

abbrev pub no_calls : Tally
no_calls = record { calls = 0; runs = false; casts = [] }

-- how many operations are finished
abbrev pub finished : Tally → ℕ
finished t = (if t.runs then t.calls - 1 else t.calls)

-- whether an operation is finished
abbrev pub is_done : List Tally → OpId → Bool
is_done tallies id = nat_lt id.number (finished (slice_index_or tallies id.process no_calls))
