-- What the rows of a history, of an order and of points say.
use Rattle.std.specs.Prelude.{ℕ, ◌≡◌, ◌==◌, List, length, slice_get, Option, Some, None, option_map, if◌then◌else◌}
use Rattle.reg_base.specs.declared.memory.OpId.{OpId}
use Rattle.reg_base.specs.declared.memory.Op.TheVariants.{Read, Write, Swap, CompareAndSwap}
use Rattle.reg_base.specs.declared.memory.Answer.TheVariants.{Done, Value, Unequal}
use Rattle.reg_checkers.specs.declared.entries.Entry.{Entry}
use Rattle.reg_checkers.specs.declared.entries.Entry.TheVariants.{Called, Answered}
use Rattle.reg_checkers.specs.declared.entries.Point.{Point}
use Rattle.reg_checkers.specs.History.{IsAt}
use Rattle.reg_c.specs.declared.rows.EntryRow.{EntryRow}
use Rattle.reg_c.specs.declared.rows.IdRow.{IdRow}
use Rattle.reg_c.specs.declared.rows.PointRow.{PointRow}

abbrev pub id_of : IdRow → OpId
id_of r = record { process = r.process; number = r.number }

abbrev pub point_of : PointRow → Point
point_of r = record { id = record { process = r.process; number = r.number }; at = r.at }

abbrev pub operation_of : EntryRow → OpId
operation_of r = record { process = r.process; number = r.number }

-- The entry that a row says, with the value that it expects, if there is one: none where its kind is not one of an
-- entry, and where it is a compare-and-swap without an expected value.
abbrev pub entry_of : EntryRow → Option ℕ → Option Entry
entry_of r expected =
    (if r.kind == 0 then Some (Called r.at (operation_of r) (Read r.register)) else
    (if r.kind == 1 then Some (Called r.at (operation_of r) (Write r.register r.value)) else
    (if r.kind == 2 then Some (Called r.at (operation_of r) (Swap r.register r.value)) else
    (if r.kind == 3 then Some (Answered r.at (operation_of r) Done) else
    (if r.kind == 4 then Some (Answered r.at (operation_of r) (Value r.value)) else
    (if r.kind == 5 then option_map (λ e. Called r.at (operation_of r) (CompareAndSwap r.register e r.value))
    expected else
    (if r.kind == 6 then Some (Answered r.at (operation_of r) Unequal) else None)))))))

-- the rows say these entries, one for each, with the expected value that stands at the same place
pub record Say (rows : List EntryRow) (expected : List ℕ) (es : List Entry) : Type 0 where
  pub many : length es ≡ length rows
  pub each : (k : ℕ) (r : EntryRow) (e : Entry) → IsAt rows k r → IsAt es k e
      → entry_of r (slice_get expected k) ≡ Some e
