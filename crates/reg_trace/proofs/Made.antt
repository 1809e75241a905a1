-- The data of a run, by its parts.
use Rattle.std.proofs.Common.{◌≡◌, ◌∙◌, ℕ, List, Option, None, ap, ap₂, subst}
use Rattle.reg_base.specs.Shape.{Extent}
use Rattle.reg_base.specs.declared.memory.Op.{Op}
use Rattle.reg_base.specs.declared.memory.OpId.{OpId}
use Rattle.reg_front.specs.declared.named.Front.{Front}
use Rattle.reg_front.specs.declared.starts.Start.{Start}
use Rattle.reg_trace.specs.Figures.{arrows_of, bars_of}
use Rattle.reg_trace.specs.Moments.{moments_of}
use Rattle.reg_checkers.specs.declared.entries.Point.{Point}
use Rattle.reg_trace.specs.Notes.{Notes}
use Rattle.reg_inputs.specs.Schedules.{Plan}
use Rattle.reg_process.specs.declared.events.Event.{Event}
use Rattle.reg_world.specs.World.{World, whole}
use Rattle.reg_world.specs.Worlds.{Made, after_events}
use Rattle.reg_trace.specs.Data.{Data, IsDataOf, data_of}
use Rattle.reg_trace.specs.Looks.{looks_of}

abbrev run_of_plan : (Op → ℕ → Start) → Plan → World
run_of_plan start p = whole start p.shape.processes p.shape.registers p.events

pub data_made : (start : Op → ℕ → Start) (p : Plan) (notes : Notes) (witness : List OpId) (points : Option (List Point))
    (d : Data)
    → d.notes ≡ notes → d.processes ≡ p.shape.processes → d.names ≡ p.names → d.front ≡ p.front
    → d.facts ≡ moments_of start p.shape p.events → d.looks ≡ looks_of start p.shape p.events → d.arrows ≡ arrows_of (moments_of start p.shape p.events) → d.bars ≡ bars_of (run_of_plan start p).history
    → d.order ≡ (run_of_plan start p).order → d.reads ≡ (run_of_plan start p).reads → d.witness ≡ witness → d.points ≡ points → d ≡ data_of start p notes witness points
data_made start p notes witness points d noted processes names front facts looks arrows bars order reads witnessed pointed = λ i. record {
  notes = noted i;
  processes = processes i;
  names = names i;
  front = front i;
  facts = facts i;
  looks = looks i;
  arrows = arrows i;
  bars = bars i;
  order = order i;
  reads = reads i;
  witness = witnessed i;
  points = pointed i;
}

-- a world is that of a plan's events
pub same_world : (start : Op → ℕ → Start) (p : Plan) (shape : Extent) (events : List Event) (w : Made) → shape ≡ p.shape
    → events ≡ p.events → w ≡ after_events start shape events → w ≡ after_events start p.shape p.events
same_world start p shape events w same_shape same_events is = is ∙ ap₂ (after_events start) same_shape same_events

-- what is told of a world is told of the plan whose events it made
pub data_told : (start : Op → ℕ → Start) (p : Plan) (given notes : Notes) (names : List (List ℕ)) (front : Front)
    (w : Made) (points : Option (List Point)) (d : Data)
    → w ≡ after_events start p.shape p.events → names ≡ p.names → front ≡ p.front → given ≡ notes
    → IsDataOf start (record { shape = record { processes = w.processes; registers = w.registers }; names = names; front = front; events = w.accepted }) given points d → IsDataOf start p notes points d
data_told start p given notes names front w points d is named fronted noted told =
    let same : record { shape = record { processes = w.processes; registers = w.registers }; names = names; front = front; events = w.accepted } ≡ p =
    λ i. record { shape = record { processes = (is i).processes; registers = (is i).registers }; names = named i; front = fronted i; events = (is i).accepted } in
    subst (λ (q : Plan). IsDataOf start q notes points d) same (subst (λ (n : Notes). IsDataOf start (record { shape = record { processes = w.processes; registers = w.registers }; names = names; front = front; events = w.accepted }) n points d) noted told)

-- the same data but for its points
abbrev pub with_points : Data → Option (List Point) → Data
with_points d points = record { notes = d.notes; processes = d.processes; names = d.names; front = d.front; facts = d.facts; looks = d.looks; arrows = d.arrows; bars = d.bars; order = d.order; reads = d.reads; witness = d.witness; points = points }

-- what is told of a run without points is told of it with these
pub points_told : (start : Op → ℕ → Start) (p : Plan) (notes : Notes) (points : Option (List Point)) (d : Data)
    → IsDataOf start p notes None d → IsDataOf start p notes points (with_points d points)
points_told start p notes points d told = record {
  accepted = told.accepted;
  witness = told.witness;
  keyed = told.keyed;
  same = ap (λ (x : Data). with_points x points) told.same;
}
