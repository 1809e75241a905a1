-- What a stop tells of the error stream alone.
use Rattle.std.proofs.Common.{ℕ, List, Option, inl, inr}
use Rattle.reg_show_cli.specs.Statuses.{Stops, Tells}
use Rattle.reg_show_cli.specs.declared.words.Asked.{Asked}
use Rattle.reg_show_cli.specs.declared.words.Asked.TheVariants.{AllOutcomes, Find, Help, Judge, Merge, Outcome}
use Rattle.reg_show_cli.specs.declared.words.Asked.TheVariants.{Outcomes, Schedule, ShortSchedule, Show, Story}
use Rattle.reg_show_cli.specs.declared.words.Asked.TheVariants.{Text as OfText, Verify, Version, Why}

pub tells_of : (asked : Asked) (input : Option (List ℕ)) (unwritten : Type 0) (old new : Option (List ℕ))
    (untold : Type 0) (was is : Option (List ℕ))
    → Stops asked input unwritten old new untold was is → Tells asked untold was is
tells_of (OfText command) input unwritten old new untold was is h = elim h [ inl (denies, answered, same) ↦ inl (denies, same) | inr (f, kind, blamed, silent, part, told) ↦ inr (f, kind, told) ]
tells_of (Show view) input unwritten old new untold was is h = elim h [ inl (denies, answered, same) ↦ inl (denies, same) | inr (f, kind, blamed, silent, part, told) ↦ inr (f, kind, told) ]
tells_of (Schedule player) input unwritten old new untold was is h = elim h [ inl (denies, answered, same) ↦ inl (denies, same) | inr (f, kind, blamed, silent, part, told) ↦ inr (f, kind, told) ]
tells_of (ShortSchedule player) input unwritten old new untold was is h = elim h [ inl (denies, answered, same) ↦ inl (denies, same) | inr (f, kind, blamed, silent, part, told) ↦ inr (f, kind, told) ]
tells_of (Outcomes plays seed) input unwritten old new untold was is h = elim h [ inl (denies, answered, same) ↦ inl (denies, same) | inr (f, kind, blamed, silent, part, told) ↦ inr (f, kind, told) ]
tells_of AllOutcomes input unwritten old new untold was is h = elim h [ inl (denies, answered, same) ↦ inl (denies, same) | inr (f, kind, blamed, silent, part, told) ↦ inr (f, kind, told) ]
tells_of (Outcome number) input unwritten old new untold was is h = elim h [ inl (denies, answered, same) ↦ inl (denies, same) | inr (f, kind, blamed, silent, part, told) ↦ inr (f, kind, told) ]
tells_of (Find kind) input unwritten old new untold was is h = elim h [ inl (denies, answered, same) ↦ inl (denies, same) | inr (f, kind, blamed, silent, part, told) ↦ inr (f, kind, told) ]
tells_of Why input unwritten old new untold was is h = elim h [ inl (denies, answered, same) ↦ inl (denies, same) | inr (f, kind, blamed, silent, part, told) ↦ inr (f, kind, told) ]
tells_of Verify input unwritten old new untold was is h = elim h [ inl (denies, answered, same) ↦ inl (denies, same) | inr (f, kind, blamed, silent, part, told) ↦ inr (f, kind, told) ]
tells_of Merge input unwritten old new untold was is h = elim h [ inl (denies, answered, same) ↦ inl (denies, same) | inr (f, kind, blamed, silent, part, told) ↦ inr (f, kind, told) ]
tells_of Story input unwritten old new untold was is h = elim h [ inl (denies, answered, same) ↦ inl (denies, same) | inr (f, kind, blamed, silent, part, told) ↦ inr (f, kind, told) ]
tells_of (Judge flags) input unwritten old new untold was is h = tt
tells_of (Help topic) input unwritten old new untold was is h = h
tells_of Version input unwritten old new untold was is h = h
