-- Looks at the links of a station, by what makes it tick.
use Rattle.std.specs.Prelude.{ℕ, ◌≡◌, ◌<◌, Bool, true, List, Option, Some, slice_get}
use Rattle.reg_base.specs.declared.limits.TheConstants.{MOST_PROCESSES}
use Rattle.reg_links.specs.declared.beats.Beat.{Beat}
use Rattle.reg_links.specs.Beats.{watched, ticks_at}

-- A look at a link, with mail at one of its ends or without: where it makes a tick, one is due.
pub record IsLooked (first : Option ℕ) (old new : Beat) (due : Bool) : Type 0 where
  pub mail : Bool
  pub beat : new ≡ watched old first mail
  pub tick : ticks_at old first mail ≡ true → due ≡ true

-- A look at every link of a station, by the first frame to each process that isn't acknowledged. A tick is due exactly
-- where one of them makes it.
pub record AreLooked (firsts : ℕ → Option ℕ) (old new : List Beat) (due : Bool) : Type 0 where
  pub each : (p : ℕ) (before : Beat) → p < MOST_PROCESSES → slice_get old p ≡ Some before
      → (after : Beat) × (slice_get new p ≡ Some after) × IsLooked (firsts p) before after due
  pub cause : due ≡ true
      → (p : ℕ) × (before : Beat) × (mail : Bool) × (slice_get old p ≡ Some before)
      × (ticks_at before (firsts p) mail ≡ true)
