-- The lines of an order and of points. To be believed: promises speak of them.
use Rattle.std.specs.Prelude.{ℕ, ◌<◌, ◌≤◌, List, ◌∷◌, ◌++◌, codes}
use Rattle.std.specs.Fmt.{decimal}
use Rattle.reg_base.specs.declared.limits.TheConstants.{MOST_OPERATIONS, LAST_EVENT}
use Rattle.reg_base.specs.declared.memory.OpId.{OpId}
use Rattle.reg_checkers.specs.declared.entries.Point.{Point}
use Rattle.reg_history.specs.declared.versions.Version.{Version}
use Rattle.reg_history.specs.Versions.{most_processes}

abbrev pub id_text : OpId → List ℕ
id_text id = codes "p" ++ (decimal id.process ++ 32 ∷ (codes "#" ++ decimal id.number))

abbrev pub point_text : Point → List ℕ
point_text p =
    codes "p"
    ++ (decimal p.id.process ++ 32 ∷ (codes "#" ++ (decimal p.id.number ++ 32 ∷ (codes "at " ++ decimal p.at))))

-- within the limits of a report of this version
abbrev pub IdFits : Version → OpId → Type 0
IdFits version id = (id.process < most_processes version) × (id.number < MOST_OPERATIONS)

abbrev pub PointFits : Version → Point → Type 0
PointFits version p = IdFits version p.id × (p.at ≤ LAST_EVENT)
