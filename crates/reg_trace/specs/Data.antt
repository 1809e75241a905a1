-- All that is told of a run, and its text.
use Rattle.std.specs.Prelude.{ℕ, ◌≡◌, List, ◌++◌, codes, Option, None, Some}
use Rattle.std.specs.Fmt.{decimal}
use Rattle.reg_base.specs.declared.memory.Op.{Op}
use Rattle.reg_base.specs.declared.memory.OpId.{OpId}
use Rattle.reg_front.specs.declared.named.Front.{Front}
use Rattle.reg_front.specs.declared.starts.Start.{Start}
use Rattle.reg_front.specs.Table.{front_name}
use Rattle.reg_trace.specs.declared.figures.Arrow.{Arrow}
use Rattle.reg_trace.specs.declared.figures.Bar.{Bar}
use Rattle.reg_trace.specs.Figures.{arrows_of, bars_of}
use Rattle.reg_trace.specs.Moments.{Fact, moments_of}
use Rattle.reg_checkers.specs.declared.entries.Point.{Point}
use Rattle.reg_trace.specs.Notes.{Notes}
use Rattle.reg_inputs.specs.Schedules.{Plan}
use Rattle.reg_world.specs.declared.order.CopyRead.{CopyRead}
use Rattle.reg_world.specs.declared.order.First.{First}
use Rattle.reg_world.specs.Keys.{IsWitness}
use Rattle.reg_world.specs.World.{World, run_of, whole}
use Rattle.reg_trace.specs.Json.{lines_text, list_text, quoted}
use Rattle.reg_trace.specs.Looks.{Look, looks_of}
use Rattle.reg_trace.specs.Noted.{noted}
use Rattle.reg_trace.specs.Parts.{bar_part, look_part, moment_part}
use Rattle.reg_trace.specs.Rows.{arrow_row, first_row, id_row, point_row, read_row}
use Rattle.reg_trace.specs.Strings.{string_text}

-- What is told of a run: what the comments of its schedule say; its processes, names and front end; what each event
-- did, and the state of its process after it; each take with the event that put its frame; the operations; the first
-- delivery of each cast; the reads answered from a copy; the witness; and the points, where there are any.
pub record Data : Type 0 where
  pub notes : Notes
  pub processes : ℕ
  pub names : List (List ℕ)
  pub front : Front
  pub facts : List Fact
  pub looks : List Look
  pub arrows : List Arrow
  pub bars : List Bar
  pub order : List First
  pub reads : List CopyRead
  pub witness : List OpId
  pub points : Option (List Point)

-- what is told of the run of a plan, with these notes, this witness and these points
abbrev pub data_in : Plan → Notes → List Fact → List Look → World → List OpId → Option (List Point) → Data
data_in p notes facts looks w witness points = record {
  notes = notes;
  processes = p.shape.processes;
  names = p.names;
  front = p.front;
  facts = facts;
  looks = looks;
  arrows = arrows_of facts;
  bars = bars_of w.history;
  order = w.order;
  reads = w.reads;
  witness = witness;
  points = points;
}

abbrev pub data_of : (Op → ℕ → Start) → Plan → Notes → List OpId → Option (List Point) → Data
data_of start p notes witness points =
    data_in p notes (moments_of start p.shape p.events) (looks_of start p.shape p.events)
    (whole start p.shape.processes p.shape.registers p.events) witness points

-- All events of a plan are accepted, and this is all that is told of their run, with these notes, its witness, and
-- these points or none.
pub record IsDataOf (start : Op → ℕ → Start) (p : Plan) (notes : Notes) (points : Option (List Point))
    (d : Data) : Type 0 where
  pub accepted : (whole start p.shape.processes p.shape.registers p.events).accepted ≡ p.events
  pub witness : List OpId
  pub keyed : IsWitness (run_of p.shape.registers (whole start p.shape.processes p.shape.registers p.events)) witness
  pub same : d ≡ data_of start p notes witness points

-- the points, where there are any
abbrev pub points_part : List (List ℕ) → Option (List Point) → List ℕ
points_part names None = codes "null"
points_part names (Some points) = lines_text (point_row names) points

-- the title, the processes, the names and the front end
abbrev pub head_text : Data → List ℕ
head_text d =
    codes "{\"version\":1,\n\"title\":" ++ (string_text d.notes.title
    ++ ((codes ",\n\"processes\":" ++ decimal d.processes)
    ++ (codes ",\n\"registers\":" ++ (list_text quoted d.names
    ++ (codes ",\n\"front\":" ++ quoted (front_name d.front))))))

-- the events with their notes, the states, the frames taken and the operations
abbrev pub run_text : Data → List ℕ
run_text d =
    (codes ",\n\"events\":" ++ lines_text (moment_part d.names) (noted d.facts d.notes.notes))
    ++ ((codes ",\n\"states\":" ++ lines_text (look_part d.names) d.looks)
    ++ ((codes ",\n\"arrows\":" ++ lines_text (arrow_row d.names) d.arrows)
    ++ (codes ",\n\"operations\":" ++ lines_text (bar_part d.names) d.bars)))

-- the one order of casts, the reads beside it, the witness and the points
abbrev pub order_text : Data → List ℕ
order_text d =
    (codes ",\n\"order\":" ++ lines_text (first_row d.names) d.order)
    ++ ((codes ",\n\"reads\":" ++ lines_text (read_row d.names) d.reads)
    ++ ((codes ",\n\"witness\":" ++ lines_text (id_row d.names) d.witness)
    ++ (codes ",\n\"points\":" ++ (points_part d.names d.points
    ++ codes "}"))))

-- all that is told of a run, as JSON
abbrev pub data_text : Data → List ℕ
data_text d = head_text d ++ (run_text d ++ order_text d)
