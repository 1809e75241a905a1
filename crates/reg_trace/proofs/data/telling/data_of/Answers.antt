use Rattle.std.proofs.Common.{◌∙◌, None, refl, ap}
use Rattle.reg_base.specs.Shape.{Extent}
use Rattle.reg_trace.specs.Figures.{arrows_of}
use Rattle.reg_inputs.specs.Schedules.{Plan}
use Rattle.reg_trace.proofs.Made.{data_made}
use Rattle.reg_trace.proofs.data.telling.data_of.Goals as goal

pub returns-clause-data : goal.returns-clause-data
returns-clause-data g c =
    let start = g.F.FrontEnd.start in
    let w = c.args.watched.world in
    let shape : Extent = record { processes = w.processes; registers = w.registers } in
    let plan : Plan = record { shape = shape; names = c.args.names; front = c.args.front; events = w.accepted } in
    let told = c.in_ok-whole.ensures in
    record {
      accepted = c.requires.accepted;
      witness = c.in_ok-whole.whole.witness.items;
      keyed = told.witness;
      same = data_made start plan c.args.notes c.in_ok-whole.whole.witness.items None _
          refl (c.processes.ensures.value ∙ ap (λ (s : Extent). s.processes) c.shape.ensures) refl refl c.requires.told c.requires.states
          (told.arrows ∙ ap arrows_of (c.as_slice.ensures.value ∙ c.requires.told)) told.bars told.order told.reads refl refl;
    }
