-- Tallies of all processes, against a run. They carry a proof: no promise speaks of them.
use Rattle.std.specs.Prelude.{ℕ, ◌≡◌, ◌<◌, ◌==◌, List, map, length}
use Rattle.std.specs.Option.{is_some}
use Rattle.std.specs.List.{filter}
use Rattle.reg_checkers.specs.History.{IsAt}
use Rattle.reg_world.specs.declared.callers.Note.{Note}
use Rattle.reg_world.specs.Runs.{Cast}
use Rattle.reg_world.specs.World.{World}
use Rattle.reg_world.specs.Tallies.{Tally}

abbrev pub note_of : Cast → Note
note_of c = record { time = c.stamp.time; number = c.id.number }

-- the casts of p
abbrev pub notes_of : ℕ → List Cast → List Note
notes_of p casts = map note_of (filter (λ (c : Cast). c.id.process == p) casts)

abbrev pub tally_of : World → ℕ → Tally
tally_of w p =
    record { calls = (w.nodes p).state.calls; runs = is_some (w.nodes p).state.running; casts = notes_of p w.casts }

-- a tally for each process, as the run has it
pub record AreTallies (n : ℕ) (w : World) (tallies : List Tally) : Type 0 where
  pub size : length tallies ≡ n
  pub each : (p : ℕ) → p < n → IsAt tallies p (tally_of w p)
