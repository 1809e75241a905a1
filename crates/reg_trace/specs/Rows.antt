-- The parts of the data of a run that are numbers alone.
use Rattle.std.specs.Prelude.{ℕ, List, [], ◌∷◌}
use Rattle.reg_base.specs.declared.memory.OpId.{OpId}
use Rattle.reg_base.specs.declared.stamps.Delivered.{Delivered}
use Rattle.reg_trace.specs.declared.moments.Delivery.{Delivery}
use Rattle.reg_trace.specs.declared.figures.Arrow.{Arrow}
use Rattle.reg_checkers.specs.declared.entries.Point.{Point}
use Rattle.reg_world.specs.declared.order.CopyRead.{CopyRead}
use Rattle.reg_world.specs.declared.order.First.{First}
use Rattle.reg_trace.specs.Json.{numbers_text}

-- a cast: its stamp
abbrev pub cast_row : List (List ℕ) → Delivered → List ℕ
cast_row names c = numbers_text (c.stamp.time ∷ c.stamp.process ∷ [])

-- a cast that was delivered
abbrev pub delivery_row : List (List ℕ) → Delivery → List ℕ
delivery_row names d = cast_row names d.cast

-- an arrow: its wire, the frame's place there, the event that put the frame, and the one that takes it
abbrev pub arrow_row : List (List ℕ) → Arrow → List ℕ
arrow_row names a = numbers_text (a.from ∷ a.to ∷ a.place ∷ a.puts ∷ a.takes ∷ [])

-- a first delivery: the stamp, the number of the operation, and the event
abbrev pub first_row : List (List ℕ) → First → List ℕ
first_row names f = numbers_text (f.stamp.time ∷ f.stamp.process ∷ f.id.number ∷ f.at ∷ [])

-- a read answered from a copy: the operation, and how many casts the copy had delivered
abbrev pub read_row : List (List ℕ) → CopyRead → List ℕ
read_row names r = numbers_text (r.id.process ∷ r.id.number ∷ r.place ∷ [])

-- an operation: its process and its number
abbrev pub id_row : List (List ℕ) → OpId → List ℕ
id_row names id = numbers_text (id.process ∷ id.number ∷ [])

-- a point: the operation, and the event
abbrev pub point_row : List (List ℕ) → Point → List ℕ
point_row names p = numbers_text (p.id.process ∷ p.id.number ∷ p.at ∷ [])
