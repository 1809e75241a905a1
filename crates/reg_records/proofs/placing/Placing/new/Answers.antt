use Rattle.std.proofs.Common.{sym, ◌∙◌}
use Rattle.reg_records.proofs.Placed.{is_new}
use Rattle.reg_records.proofs.placing.Placing.new.Goals as goal

pub returns : goal.returns
returns g c = is_new c.args.shape record { order = c.new-3.result.items; counts = c.in_ok-counts.counts.items; world = c.in_ok-world.world } c.new-3.ensures.items c.in_ok-world.ensures c.in_ok-counts.ensures.zero
    (sym c.in_ok-counts.counts.ok.0 ∙ (c.in_ok-counts.ensures.len ∙ c.processes.ensures.value))
